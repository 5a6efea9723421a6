-- How a row is changed: what is checked, in which order, and what becomes of the row.
use Rattle.std.specs.Prelude.{◌≡◌, ◌+◌, ◌&&◌, ◌||◌, ℕ, Bool, true, false, List, [], ◌∷◌, ◌++◌, Option, Some, None, Result, IsErr, chars, codes, if◌then◌else◌}
use Rattle.std.specs.Option.{option_map}
use Rattle.std.specs.Str.{bytes_eq}
use Rattle.dv_value.specs.declared.id.Id.{Id}
use Rattle.dv_value.specs.declared.raw.Raw.{Raw}
use Rattle.dv_value.specs.Raws.{value_of}
use Rattle.dv_refusal.specs.declared.refusal.Refusal.{Refusal}
use Rattle.dv_refusal.specs.declared.refusal.Refusal.TheVariants as answer
use Rattle.dv_schema.specs.declared.definition.Definition.{Definition}
use Rattle.dv_schema.specs.declared.opening.Action.TheVariants.{Append, Write}
use Rattle.dv_schema.specs.declared.relationship.Relationship.{Relationship}
use Rattle.dv_schema.specs.declared.table.Column.{Column}
use Rattle.dv_schema.specs.Sound.{is_parental, relationship_at}
use Rattle.dv_store.specs.declared.keys.RowKey.{RowKey}
use Rattle.dv_store.specs.declared.row.Row.{Row}
use Rattle.dv_store.specs.Shapes.{place_of}
use Rattle.dv_store.specs.World.{World}
use Rattle.dv_cascade.specs.Chains.{Reaches}
use Rattle.dv_cascade.specs.Circles.{parent_of, IsNotUnder, IsUnderParent}
use Rattle.dv_shares.specs.Outcome.{LimitSays}
use Rattle.dv_request.specs.declared.reply.Reply.{Reply}
use Rattle.dv_request.specs.declared.reply.Reply.TheVariants.{Done}
use Rattle.dv_message.specs.declared.columns.Writing.TheVariants as writing
use Rattle.dv_message.specs.declared.rows.Target.{Target}
use Rattle.dv_message.specs.declared.lookups.Naming.{Naming}
use Rattle.dv_message.specs.Checked.{FirstOf, Judged}
use Rattle.dv_message.specs.Columns.{first_by_name, given_by, is_empty, values_fault}
use Rattle.dv_message.specs.Lookups.{namings, AppendSays, NamedSays}
use Rattle.dv_message.specs.Rights.{RightSays}
use Rattle.dv_message.specs.Rows.{row_in, row_fault, OfRow}
use Rattle.dv_message.specs.Scenes.{Targeted, targeted_in}
use Rattle.dv_message.specs.Showing.{value_at}
use Rattle.dv_message.specs.Sizes.{size_fault}
use Rattle.dv_write.specs.declared.change.Change.{Change}
use Rattle.dv_write.specs.declared.change.Edit.TheVariants.{Set}
use Rattle.dv_write.specs.declared.change.Placed.{Placed}
use Rattle.dv_write.specs.declared.updating.RowUpdate.{RowUpdate}
use Rattle.dv_write.specs.declared.updating.UpdateCheck.{UpdateCheck}
use Rattle.dv_write.specs.declared.updating.UpdateCheck.TheVariants as check
use Rattle.dv_write.specs.Closures.{key_of}
use Rattle.dv_write.specs.Effects.{applied, edited, first_limit, touched, LimitThen}
use Rattle.dv_write.specs.Moving.{Settles}
use Rattle.dv_write.specs.Kept.{VersionSays}

-- what an update is about: the row that it names, the values that it gives, and the version that the row has to be at
pub record Updating : Type 0 where
  pub target : Targeted
  pub values : List (List ℕ × Raw)
  pub version : Option ℕ

-- an update in a world
abbrev pub updating_in : World → Target → List (List ℕ × Raw) → Option ℕ → Updating
updating_in w target values version = record { target = targeted_in w target; values = values; version = version }

-- the same of an update as the code has it
abbrev pub update_in : World → RowUpdate → Updating
update_in w u = updating_in w u.target.now u.values.now u.version

-- the value that is given for the column of a number, at the column's place
abbrev pub placed_in : ℕ → Column → Option Raw → List Placed
placed_in number column None = []
placed_in number column (Some raw) = record { place = place_of number; value = given_by column.kind (Some raw) } ∷ []

-- the values that are given for columns, of which the first has a number
unfoldable pub placed_from : ℕ → List (List ℕ × Raw) → List Column → List Placed
placed_from number values [] = []
placed_from number values (column ∷ columns) = placed_in number column (value_of column.name values) ++ placed_from (number + 1) values columns

-- what an update puts into its row: the values that are given, the user and the moment
abbrev pub update_values : Updating → List Placed
update_values u = placed_from 0 u.values u.target.table.columns ++ touched u.target.setting

-- the row as the update leaves it, but for its version
abbrev pub updated_row : Updating → Option Row
updated_row u = option_map (edited (update_values u)) (row_in u.target)

-- whether a row must have a value in a column: where the definition says so, and in the state
abbrev pub must_have : Column → Bool
must_have column = column.required || bytes_eq column.name (chars (codes "statecode"))

-- of the columns of a row, the first of which has a number, those that must have a value and have none
unfoldable pub missing_from : Id → Row → ℕ → List Column → List Column
missing_from id row number [] = []
missing_from id row number (column ∷ columns) = (if must_have column && is_empty (value_at id row number) then column ∷ [] else []) ++ missing_from id row (number + 1) columns

-- of the columns that must have a value in a row and have none, the first by name is told
abbrev pub missing_fault : Id → Row → List Column → Option Refusal
missing_fault id row columns = option_map (λ column. answer.RequiredMissing column.name) (first_by_name (missing_from id row 0 columns))

-- the rows that the lookups name which are given
abbrev pub named_rows : Updating → List Naming
named_rows u = namings u.target.setting.definition u.target.table.columns u.values

-- what a lookup says that puts the row under a parent, and may not put it above itself: the parent is neither the row nor
-- below it
abbrev pub ParentSays : World → Definition → RowKey → RowKey → Relationship → Option Refusal → Type 0
ParentSays w d key parent r None = IsNotUnder w d key parent
ParentSays w d key parent r (Some refusal) = Reaches (IsUnderParent w d) parent key × (refusal ≡ answer.Circular r.name)

-- the same of a lookup that may not be parental
abbrev pub LookupSays : World → Definition → RowKey → RowKey → Relationship → Bool → Option Refusal → Type 0
LookupSays w d key parent r true refusal = ParentSays w d key parent r refusal
LookupSays w d key parent r false refusal = refusal ≡ None

-- the same of a lookup by its relationship's number
abbrev pub OfRelationship : World → Definition → RowKey → RowKey → Option Relationship → Option Refusal → Type 0
OfRelationship w d key parent None refusal = refusal ≡ None
OfRelationship w d key parent (Some r) refusal = LookupSays w d key parent r (is_parental r) refusal

-- the first lookup that would put the row above itself is told by its relationship
unfoldable pub CircleSays : World → Definition → RowKey → List Naming → Option Refusal → Type 0
CircleSays w d key named refusal = FirstOf (λ naming said. OfRelationship w d key naming.parent (relationship_at d naming.relationship) said) named refusal

-- what each check says
unfoldable pub UpdateSays : Updating → UpdateCheck → Option Refusal → Type 0
UpdateSays u check.Values refusal = refusal ≡ values_fault writing.Update u.target.table.columns u.values
UpdateSays u check.Row refusal = refusal ≡ row_fault u.target
UpdateSays u check.Right refusal = RightSays u.target Write refusal
UpdateSays u check.Append refusal = AppendSays (RightSays u.target Append) u.target (named_rows u) refusal
UpdateSays u check.Version refusal = VersionSays u.target u.version refusal
UpdateSays u check.Required refusal = OfRow (updated_row u) (λ row said. said ≡ missing_fault u.target.id row u.target.table.columns) refusal
UpdateSays u check.Named refusal = NamedSays u.target (named_rows u) refusal
UpdateSays u check.Circle refusal = CircleSays u.target.world u.target.setting.definition (key_of u.target) (named_rows u) refusal
UpdateSays u check.Size refusal = OfRow (updated_row u) (λ row said. said ≡ size_fault row.values) refusal

-- the checks, in their order
abbrev pub update_checks : List UpdateCheck
update_checks = check.Values ∷ check.Row ∷ check.Right ∷ check.Append ∷ check.Version ∷ check.Required ∷ check.Named ∷ check.Circle ∷ check.Size ∷ []

-- the change that an update makes; an update that gives no values changes its row too
unfoldable pub update_changes : Updating → List Change
update_changes u = record { key = key_of u.target; edit = Set (update_values u) } ∷ []

-- the world with the row changed
abbrev pub updated : Updating → World
updated u = applied (update_changes u) u.target.world

-- the row is changed, and where it has another parent then, that is handed on
abbrev pub IsUpdated : Updating → World → Type 0
IsUpdated u new = Settles u.target.setting.definition (key_of u.target) (parent_of u.target.world u.target.setting.definition (key_of u.target)) (updated u) new

-- the limit that an update would pass: that of rows or versions, or else that of grants
abbrev pub UpdateLimit : Updating → Option Refusal → Type 0
UpdateLimit u said = LimitThen (first_limit (update_changes u) u.target.world) (LimitSays (IsUpdated u) (updated u)) said

-- the row is changed
abbrev pub Updates : Updating → World → Reply → Type 0
Updates u new reply = IsUpdated u new × (reply ≡ Done)

-- what comes of an update; a refused one leaves the world
abbrev pub RunsUpdate : Updating → World → Result Reply Refusal → Type 0
RunsUpdate u new outcome = Judged (UpdateSays u) update_checks (UpdateLimit u) (Updates u new) outcome × (IsErr outcome → new ≡ u.target.world)
