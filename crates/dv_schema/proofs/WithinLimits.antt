-- A text without a fault of form is within its limits.
use Rattle.std.proofs.Common.{◌≡◌, sym, refl, subst, ℕ, zero, suc, ◌≤◌, List, [], ◌∷◌, map, length, drop, Option, Some, None}
use Rattle.std.proofs.lemmas.List.{length-map}
use Rattle.std.specs.List.{slice_get}
use Rattle.serde_json.specs.Data.{Data}
use Rattle.dv_form.specs.Forms.{Member, list_of, object_of}
use Rattle.dv_form.specs.Walk.{Violation, judged_member, judged_object, decided, members_fault, first_fault, fault_at}
use Rattle.dv_form.specs.Members.{members_in}
use Rattle.std.specs.Option.{option_map}
use Rattle.dv_form.specs.LocalFaults.{fault_of}
use Rattle.dv_form.specs.Members as say
use Rattle.dv_form.proofs.Faultless.{or_none, plain_free, member_list_free, member_item_free}
use Rattle.dv_schema.specs.Grammar.{schemas, table, needs, may}
use Rattle.dv_schema.specs.Limits.{IsWithinLimits, most_tables, most_columns, most_relationships, most_steps}
use Rattle.dv_form.specs.Members.{at}
use Rattle.dv_schema.specs.Reading.{draft_of, table_of}
use Rattle.dv_schema.specs.declared.draft.DraftTable.{DraftTable}
use Rattle.dv_schema.specs.declared.grammar.Rule.{Rule}
use Rattle.dv_schema.specs.declared.grammar.Rule.TheVariants.{Definition, Table, Column, Relationship, Registration}

-- an item of what each item gives
mapped : {A B : Type 0} (f : A → B) (xs : List A) (i : ℕ) (y : B) → slice_get (map f xs) i ≡ Some y → (x : A) × (slice_get xs i ≡ Some x) × (y ≡ f x)
mapped f [] i y e = absurd (cc)
mapped f (x ∷ xs) zero y e = let same : y ≡ f x = cc in (x, refl, same)
mapped f (x ∷ xs) (suc i) y e = mapped f xs i y e

-- a member of a table that has no fault
abbrev Free : Data → Member Rule → Type 0
Free d m = judged_member d m (fault_at schemas (members_in d) m.name m.form) ≡ None

record DefinitionFree (d : Data) : Type 0 where
  tables_free : Free d (needs "tables" (list_of (object_of Table) (Some most_tables)))
  relationships_free : Free d (may "relationships" (list_of (object_of Relationship) (Some most_relationships)))
  steps_free : Free d (may "steps" (list_of (object_of Registration) (Some most_steps)))

definition_free : (d : Data) → first_fault schemas d (object_of Definition) ≡ None → DefinitionFree d
unfolding schemas judged_object decided members_fault
definition_free d e =
    let members = (or_none _ _ (or_none _ _ (plain_free schemas d Definition e)).1).0 in
    let from_tables = (or_none _ _ (or_none _ _ members).1).1 in
    let from_relationships = (or_none _ _ from_tables).1 in
    let from_steps = (or_none _ _ from_relationships).1 in
    record { tables_free = (or_none _ _ from_tables).0; relationships_free = (or_none _ _ from_relationships).0; steps_free = (or_none _ _ from_steps).0 }

columns_free : (d : Data) → first_fault schemas d (object_of Table) ≡ None → Free d (needs "columns" (list_of (object_of Column) (Some most_columns)))
unfolding schemas judged_object decided members_fault
columns_free d e =
    let look = fault_at schemas (members_in d) in
    let members : members_fault d look table.members ≡ None = (or_none _ _ (or_none _ _ (plain_free schemas d Table e)).1).0 in
    let from_owned : members_fault d look (drop 1 table.members) ≡ None = (or_none _ _ members).1 in
    let from_tracking : members_fault d look (drop 2 table.members) ≡ None = (or_none _ _ from_owned).1 in
    let from_columns : members_fault d look (drop 3 table.members) ≡ None = (or_none _ _ from_tracking).1 in
    (or_none _ _ from_columns).0

few_columns : (d : Data) → first_fault schemas d (object_of Table) ≡ None → length (table_of d).columns ≤ most_columns
unfolding table_of
few_columns d e = rw length-map (member_list_free schemas d (needs "columns" (list_of (object_of Column) (Some most_columns))) (object_of Column) most_columns _ refl refl (columns_free d e))

few_columns_each : (d : Data) → DefinitionFree d → (i : ℕ) (one : DraftTable) → slice_get (map table_of (say.list_of (at "tables" d))) i ≡ Some one → length one.columns ≤ most_columns
few_columns_each d free i one_table e =
    let found = mapped table_of (say.list_of (at "tables" d)) i one_table e in
    let one = member_item_free schemas d (needs "tables" (list_of (object_of Table) (Some most_tables))) (object_of Table) most_tables _ i found.0 refl refl free.tables_free found.1 in
    subst (λ (t : DraftTable). length t.columns ≤ most_columns) (sym found.2) (few_columns found.0 one)

pub within_limits : (d : Data) → first_fault schemas d (object_of Definition) ≡ None → IsWithinLimits (draft_of d)
unfolding draft_of
within_limits d e =
    let free = definition_free d e in
    record {
      tables = rw length-map (member_list_free schemas d (needs "tables" (list_of (object_of Table) (Some most_tables))) (object_of Table) most_tables _ refl refl free.tables_free);
      columns = few_columns_each d free;
      relationships = rw length-map (member_list_free schemas d (may "relationships" (list_of (object_of Relationship) (Some most_relationships))) (object_of Relationship) most_relationships _ refl refl free.relationships_free);
      steps = rw length-map (member_list_free schemas d (may "steps" (list_of (object_of Registration) (Some most_steps))) (object_of Registration) most_steps _ refl refl free.steps_free);
    }

-- no fault is told where none was found
pub untold : (found : Option Violation) → option_map fault_of found ≡ None → found ≡ None
untold None e = refl
untold (Some f) e = absurd (cc)
