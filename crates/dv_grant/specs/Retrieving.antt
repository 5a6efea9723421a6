-- How a row is retrieved: what is checked, in which order, and what is shown.
use Rattle.std.specs.Prelude.{◌≡◌, ℕ, not, is_some, List, [], ◌∷◌, Option, Some, None, Result}
use Rattle.std.specs.Option.{option_or}
use Rattle.dv_value.specs.declared.raw.Raw.{Raw}
use Rattle.dv_refusal.specs.declared.refusal.Refusal.{Refusal}
use Rattle.dv_refusal.specs.declared.refusal.Refusal.TheVariants as answer
use Rattle.dv_schema.specs.declared.opening.Action.TheVariants as action
use Rattle.dv_schema.specs.declared.table.Column.{Column}
use Rattle.dv_store.specs.declared.row.Row.{Row}
use Rattle.dv_store.specs.World.{World}
use Rattle.dv_request.specs.declared.reply.Reply.{Reply}
use Rattle.dv_request.specs.declared.reply.Reply.TheVariants.{Found}
use Rattle.dv_message.specs.declared.rows.Target.{Target}
use Rattle.dv_message.specs.Checked.{Judged, refused_if}
use Rattle.dv_message.specs.Columns.{column_of}
use Rattle.dv_message.specs.Rights.{RightSays}
use Rattle.dv_message.specs.Rows.{row_in, row_fault}
use Rattle.dv_message.specs.Scenes.{Targeted, targeted_in}
use Rattle.dv_message.specs.Showing.{asked_from, IsShownRow}
use Rattle.dv_grant.specs.declared.retrieving.RetrieveCheck.{RetrieveCheck}
use Rattle.dv_grant.specs.declared.retrieving.RetrieveCheck.TheVariants as check

-- a retrieval: the row that it names, and the columns that are asked for; where none are given, all are
pub record Retrieving : Type 0 where
  pub target : Targeted
  pub names : Option (List (List ℕ))

-- a retrieval in a world
abbrev pub retrieving_in : World → Target → Option (List (List ℕ)) → Retrieving
retrieving_in w t names = record { target = targeted_in w t; names = names }

-- a name that no column has
abbrev pub name_fault : List Column → List ℕ → Option Refusal
name_fault columns name = refused_if (not (is_some (column_of columns name))) (answer.UnknownColumn name)

-- the first of some names that no column has
unfoldable pub names_fault : List Column → List (List ℕ) → Option Refusal
names_fault columns [] = None
names_fault columns (name ∷ names) = option_or (name_fault columns name) (names_fault columns names)

-- the same of the names that are asked for, if any are given
abbrev pub asked_fault : List Column → Option (List (List ℕ)) → Option Refusal
asked_fault columns None = None
asked_fault columns (Some names) = names_fault columns names

-- a row as it is shown, with the columns that are asked for; of a row that isn't there nothing is shown
abbrev pub IsShownAs : Retrieving → Option Row → List (List ℕ × Raw) → Type 0
IsShownAs r None shown = shown ≡ []
IsShownAs r (Some row) shown = IsShownRow r.target.table.columns (asked_from 0 r.names r.target.table.columns) r.target.id row shown

-- what each check says: each name is that of a column; the row is there; the caller may read it
unfoldable pub RetrieveSays : Retrieving → RetrieveCheck → Option Refusal → Type 0
RetrieveSays r check.Columns refusal = refusal ≡ asked_fault r.target.table.columns r.names
RetrieveSays r check.Row refusal = refusal ≡ row_fault r.target
RetrieveSays r check.Read refusal = RightSays r.target action.Read refusal

-- the checks, in their order
abbrev pub retrieve_checks : List RetrieveCheck
retrieve_checks = check.Columns ∷ check.Row ∷ check.Read ∷ []

-- the row is shown
abbrev pub Shows : Retrieving → Reply → Type 0
Shows r reply = (shown : List (List ℕ × Raw)) × IsShownAs r (row_in r.target) shown × (reply ≡ Found shown)

-- what comes of a retrieval, which has no limit to pass
abbrev pub RunsRetrieve : Retrieving → Result Reply Refusal → Type 0
RunsRetrieve r outcome = Judged (RetrieveSays r) retrieve_checks (λ said. said ≡ None) (Shows r) outcome
