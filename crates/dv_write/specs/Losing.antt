-- What the changes of a deletion are made from: rows and lookups in their orders.
use Rattle.std.specs.Prelude.{◌≡◌, Bool, IsTrue, List, [], ◌∷◌, ◌++◌, Option, None, Some, map, if◌then◌else◌}
use Rattle.std.specs.List.{list_any}
use Rattle.std.specs.List.Sorted.{IsStrictlySortedBy}
use Rattle.std.specs.Ordering.{is_lt}
use Rattle.dv_store.specs.declared.keys.RowKey.{RowKey}
use Rattle.dv_store.specs.Keys.{is_row, row_cmp}
use Rattle.dv_cascade.specs.declared.lookup.LookupKey.{LookupKey}
use Rattle.dv_cascade.specs.Chains.{is_among, AreExactly}
use Rattle.dv_cascade.specs.Removal.{lookup_cmp}
use Rattle.dv_message.specs.Scenes.{Setting}
use Rattle.dv_write.specs.declared.change.Change.{Change}
use Rattle.dv_write.specs.declared.change.Edit.{Edit}
use Rattle.dv_write.specs.declared.change.Edit.TheVariants.{Remove, Set}
use Rattle.dv_write.specs.Deleting.{deletion_of, emptied, is_hit}
use Rattle.dv_write.specs.Effects.{touched}

-- whether a row loses one of some lookups
abbrev pub is_loser : List LookupKey → RowKey → Bool
is_loser lookups key = list_any (λ lookup. is_row key lookup.row) lookups

-- rows by table and id, and lookups of other rows by table, id and column
pub record AreOrdered (set : List RowKey) (lookups : List LookupKey) : Type 0 where
  pub by_row : IsStrictlySortedBy row_cmp set
  pub by_lookup : IsStrictlySortedBy lookup_cmp lookups
  pub outside : (key : RowKey) → IsTrue (is_among set key) → IsTrue (is_loser lookups key) → ⊥

-- the changes of rows that go and of rows that lose lookups, by table and id
abbrev pub AreChanges : Setting → List RowKey → List LookupKey → List Change → Type 0
AreChanges s set lookups changes = (keys : List RowKey) × AreExactly row_cmp (λ key. IsTrue (is_hit set lookups key)) keys × (changes ≡ map (deletion_of s set lookups) keys)

-- the lesser of two rows
abbrev pub lesser : RowKey → RowKey → RowKey
lesser a b = if is_lt (row_cmp a b) then a else b

-- the first row of both lists
unfoldable pub first_row : List RowKey → List LookupKey → Option RowKey
first_row [] [] = None
first_row (row ∷ rows) [] = Some row
first_row [] (lookup ∷ lookups) = Some lookup.row
first_row (row ∷ rows) (lookup ∷ lookups) = Some (lesser row lookup.row)

-- what a deletion does to a row that loses these lookups; one that loses none goes
unfoldable pub edit_of : Setting → List LookupKey → Edit
edit_of s [] = Remove
edit_of s (lookup ∷ lookups) = Set (map emptied (lookup ∷ lookups) ++ touched s)
