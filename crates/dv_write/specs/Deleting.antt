-- How a row is removed: what is checked, in which order, and which rows go with it.
use Rattle.std.specs.Prelude.{◌≡◌, ◌||◌, ℕ, Bool, IsTrue, List, [], ◌∷◌, ◌++◌, Option, Result, IsErr, map, filter, slice_get, if◌then◌else◌}
use Rattle.std.specs.List.{list_any}
use Rattle.std.specs.Option.{option_and_then, option_map}
use Rattle.dv_value.specs.declared.value.Value.TheVariants.{Empty}
use Rattle.dv_refusal.specs.declared.refusal.Refusal.{Refusal}
use Rattle.dv_refusal.specs.declared.refusal.Refusal.TheVariants as answer
use Rattle.dv_schema.specs.declared.definition.Definition.{Definition}
use Rattle.dv_schema.specs.declared.opening.Action.TheVariants as action
use Rattle.dv_schema.specs.Definitions.{relationships_of}
use Rattle.dv_store.specs.declared.keys.RowKey.{RowKey}
use Rattle.dv_store.specs.Keys.{is_row, row_cmp}
use Rattle.dv_store.specs.Shapes.{place_of}
use Rattle.dv_store.specs.World.{World}
use Rattle.dv_cascade.specs.declared.cascading.Cascading.TheVariants as cascading
use Rattle.dv_cascade.specs.declared.lookup.LookupKey.{LookupKey}
use Rattle.dv_cascade.specs.Chains.{is_among, AreExactly}
use Rattle.dv_cascade.specs.Removal.{lookup_cmp, Blocks, IsCleared, IsFirst}
use Rattle.dv_request.specs.declared.reply.Reply.{Reply}
use Rattle.dv_request.specs.declared.reply.Reply.TheVariants.{Done}
use Rattle.dv_message.specs.declared.rows.Target.{Target}
use Rattle.dv_message.specs.Checked.{Judged}
use Rattle.dv_message.specs.Rights.{RightSays}
use Rattle.dv_message.specs.Rows.{row_fault}
use Rattle.dv_message.specs.Scenes.{Setting, Targeted, targeted_in}
use Rattle.dv_write.specs.declared.change.Change.{Change}
use Rattle.dv_write.specs.declared.change.Edit.{Edit}
use Rattle.dv_write.specs.declared.change.Edit.TheVariants.{Remove, Set}
use Rattle.dv_write.specs.declared.change.Placed.{Placed}
use Rattle.dv_write.specs.declared.deleting.DeleteCheck.{DeleteCheck}
use Rattle.dv_write.specs.declared.deleting.DeleteCheck.TheVariants as check
use Rattle.dv_write.specs.Closures.{work_fault, IsClosure, Next, ReachedSays, Then}
use Rattle.dv_write.specs.Effects.{applied, first_limit, touched}
use Rattle.dv_write.specs.Kept.{VersionSays}

-- what a deletion is about: the row that it names, and the version that the row has to be at
pub record Deleting : Type 0 where
  pub target : Targeted
  pub version : Option ℕ

-- a deletion in a world
abbrev pub deleting_in : World → Target → Option ℕ → Deleting
deleting_in w target version = record { target = targeted_in w target; version = version }

-- what each check says: the row is there; the user may delete it; it is at the version that is said
unfoldable pub DeleteSays : Deleting → DeleteCheck → Option Refusal → Type 0
DeleteSays d check.Row refusal = refusal ≡ row_fault d.target
DeleteSays d check.Right refusal = RightSays d.target action.Delete refusal
DeleteSays d check.Version refusal = VersionSays d.target d.version refusal

-- the checks, in their order
abbrev pub delete_checks : List DeleteCheck
delete_checks = check.Row ∷ check.Right ∷ check.Version ∷ []

-- a relationship that blocks a removal is told by its name
abbrev pub restrict_fault : Definition → Option ℕ → Option Refusal
restrict_fault d first = option_and_then (λ number. option_map (λ r. answer.Restricted r.name) (slice_get (relationships_of d) number)) first

-- what blocks the removal of some rows: the first relationship of the definition that restricts removals and by which a row
-- outside them names one of them
unfoldable pub BlockSays : Targeted → List RowKey → Option Refusal → Type 0
BlockSays t set refusal = (first : Option ℕ) × (IsFirst (Blocks t.world t.setting.definition set) first × (refusal ≡ restrict_fault t.setting.definition first))

-- the lookups of rows outside some rows that their removal empties, by table, id and column
abbrev pub AreEmptied : Targeted → List RowKey → List LookupKey → Type 0
AreEmptied t set lookups = AreExactly lookup_cmp (IsCleared t.world t.setting.definition set) lookups

-- those of one row
abbrev pub lookups_of : List LookupKey → RowKey → List LookupKey
lookups_of lookups key = filter (λ lookup. is_row key lookup.row) lookups

-- whether a row goes, or loses a lookup
abbrev pub is_hit : List RowKey → List LookupKey → RowKey → Bool
is_hit set lookups key = is_among set key || list_any (λ lookup. is_row key lookup.row) lookups

-- an empty lookup
abbrev pub emptied : LookupKey → Placed
emptied lookup = record { place = place_of lookup.column; value = Empty }

-- what a deletion does to a row: one of the set goes; another gets its lookups emptied, the user and the moment
unfoldable pub edit_by : Setting → List RowKey → List LookupKey → RowKey → Edit
edit_by s set lookups key = if is_among set key then Remove else Set (map emptied (lookups_of lookups key) ++ touched s)

abbrev pub deletion_of : Setting → List RowKey → List LookupKey → RowKey → Change
deletion_of s set lookups key = record { key = key; edit = edit_by s set lookups key }

-- the changes of a deletion of some rows, by table and id: they go, and rows outside lose the lookups that are emptied
abbrev pub AreDeletions : Targeted → List RowKey → List Change → Type 0
AreDeletions t set changes = (lookups : List LookupKey) × (keys : List RowKey) × AreEmptied t set lookups
    × AreExactly row_cmp (λ key. IsTrue (is_hit set lookups key)) keys × (changes ≡ map (deletion_of t.setting set lookups) keys)

-- the changes are made
abbrev pub Deletes : Deleting → List Change → World → Reply → Type 0
Deletes d changes new reply = (new ≡ applied changes d.target.world) × (reply ≡ Done)

-- what comes of the removal of some rows: nothing may block it, and no limit may be passed
abbrev pub RunsRemoval : Deleting → List RowKey → World → Result Reply Refusal → Type 0
RunsRemoval d set new outcome = (changes : List Change) × AreDeletions d.target set changes
    × Judged (BlockSays d.target) (set ∷ []) (λ said. said ≡ first_limit changes d.target.world) (Deletes d changes new) outcome

-- what comes of a deletion of the rows that it reaches: they may not be too many, the user has to have the right to delete
-- each of them, and then their removal is tried
abbrev pub RunsReached : Deleting → World → Result Reply Refusal → Type 0
RunsReached d new outcome = (set : List RowKey) × IsClosure d.target cascading.Delete set
    × Next (work_fault set) (Then (ReachedSays d.target action.Delete) set (RunsRemoval d set new)) outcome

-- what comes of a deletion; a refused one leaves the world
abbrev pub RunsDelete : Deleting → World → Result Reply Refusal → Type 0
RunsDelete d new outcome = Then (DeleteSays d) delete_checks (RunsReached d new) outcome × (IsErr outcome → new ≡ d.target.world)
