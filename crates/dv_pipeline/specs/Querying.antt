-- What a query shows: the rows of its table that the caller may read, and nothing of any other.
use Rattle.std.specs.Prelude.{◌≡◌, ◌⊎◌, ◌≤◌, ◌<◌, ℕ, false, List, [], ◌∷◌, Option, Some, None, option_map, Result, length, chars}
use Rattle.dv_value.specs.declared.id.Id.{Id}
use Rattle.dv_value.specs.declared.raw.Raw.{Raw}
use Rattle.dv_refusal.specs.declared.refusal.Refusal.{Refusal}
use Rattle.dv_refusal.specs.declared.refusal.Refusal.TheVariants as answer
use Rattle.dv_schema.specs.declared.definition.Definition.{Definition}
use Rattle.dv_schema.specs.declared.table.Table.{Table}
use Rattle.dv_schema.specs.declared.opening.Action.TheVariants.{Read}
use Rattle.dv_query.specs.declared.query.Query.{Query}
use Rattle.dv_query_check.specs.Faults.{kind_word}
use Rattle.dv_query_check.specs.Queries.{first_fault}
use Rattle.dv_roles.specs.State.{State}
use Rattle.dv_store.specs.Cursors.{Told, told_of}
use Rattle.dv_store.specs.World.{World, row_at}
use Rattle.dv_store.specs.declared.row.Row.{Row}
use Rattle.dv_access.specs.View.{View, view_of, AreExactly}
use Rattle.dv_access.specs.declared.denied.Why.TheVariants.{NoPrivilege}
use Rattle.dv_request.specs.declared.reply.Reply.{Reply}
use Rattle.dv_request.specs.declared.reply.Reply.TheVariants.{Page}
use Rattle.dv_message.specs.Checked.{Judged}
use Rattle.dv_message.specs.Refusing.{denied_as}
use Rattle.dv_message.specs.Showing.{asked_from, IsShownRow}
use Rattle.dv_pipeline.specs.declared.query.Asked.{Asked}
use Rattle.dv_pipeline.specs.declared.query.QueryCheck.{QueryCheck}
use Rattle.dv_pipeline.specs.declared.query.QueryCheck.TheVariants as check

-- what a caller can see: whether it is there and enabled, its unit and teams, the tables of which it may read
-- something, and the rows that it may read with their values
pub record Sight : Type 1 where
  pub view : View
  pub HasRow : ℕ → Id → Row → Type 0

abbrev pub sight_of : State → Told → Id → Sight
sight_of d told user = record {
  view = view_of d told user;
  HasRow = λ table id row. (view_of d told user).ReadsRow table id × (row_at told.rows table id ≡ Some row);
}

-- what a query is about: the definition and what is asked of it, the table with its number, and what the caller can see
pub record Querying : Type 1 where
  pub sight : Sight
  pub definition : Definition
  pub query : Query
  pub number : ℕ
  pub table : Table

-- a query in a world
abbrev pub querying_in : World → Asked → Querying
querying_in w q = record { sight = sight_of q.directory.now (told_of w) q.user; definition = q.definition.now; query = q.query.now; number = q.number; table = q.table.now }

-- the first fault of a query, as it is refused
unfoldable pub query_fault : Definition → Query → Option Refusal
query_fault d q = option_map (λ fault. answer.BadQuery (chars (kind_word fault.kind)) (chars fault.place)) (first_fault d q)

-- the most rows that an answer has, as long as it isn't cut into pages
abbrev pub most_shown : ℕ
most_shown = 5000

-- the rows of these ids, as they are shown
unfoldable pub ShowsRows : Querying → List Id → List (List (List ℕ × Raw)) → Type 0
ShowsRows q [] [] = Rattle.std.specs.Prelude.⊤
ShowsRows q (id ∷ ids) (shown ∷ rows) = ((row : Row) × q.sight.HasRow q.number id row × IsShownRow q.table.columns (asked_from 0 q.query.columns q.table.columns) id row shown) × ShowsRows q ids rows
ShowsRows q [] (shown ∷ rows) = ⊥
ShowsRows q (id ∷ ids) [] = ⊥

-- the ids of the rows that the caller may read, in ascending order
abbrev pub AreReadable : Querying → List Id → Type 0
AreReadable q ids = AreExactly (q.sight.view.ReadsRow q.number) ids

-- something of reading is held on the table; or the query is denied
abbrev pub MayRead : Querying → Option Refusal → Type 0
MayRead q None = q.sight.view.ReadsTable q.number
MayRead q (Some refusal) = (q.sight.view.ReadsTable q.number → ⊥) × (refusal ≡ denied_as q.table (record { action = Read; table = q.number; why = NoPrivilege }))

-- the answer isn't longer than is shown at once
abbrev pub IsShort : Querying → Option Refusal → Type 0
IsShort q None = (ids : List Id) × AreReadable q ids × (length ids ≤ most_shown)
IsShort q (Some refusal) = ((ids : List Id) × AreReadable q ids × (most_shown < length ids)) × (refusal ≡ answer.NotBuilt)

-- what each check says
unfoldable pub QuerySays : Querying → QueryCheck → Option Refusal → Type 0
QuerySays q check.WellFormed refusal = refusal ≡ query_fault q.definition q.query
QuerySays q check.Privilege refusal = MayRead q refusal

-- the checks, in their order
abbrev pub query_checks : List QueryCheck
query_checks = check.WellFormed ∷ check.Privilege ∷ []

-- a page with each row that the caller may read, and nothing else
abbrev pub Shows : Querying → Reply → Type 0
Shows q reply = (ids : List Id) × (rows : List (List (List ℕ × Raw))) × AreReadable q ids × ShowsRows q ids rows × (reply ≡ Page rows false None None None)

-- what comes of a query
abbrev pub RunsQuerying : Querying → Result Reply Refusal → Type 0
RunsQuerying q outcome = Judged (QuerySays q) query_checks (IsShort q) (Shows q) outcome
