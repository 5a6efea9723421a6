-- Lookups that were found.
use Rattle.std.specs.Prelude.{◌≡◌, ◌↔◌, ◌⊎◌, Bool, false, IsTrue, List}
use Rattle.std.specs.List.{list_any}
use Rattle.std.specs.Ordering.{eq_by_cmp}
use Rattle.dv_schema.specs.declared.relationship.Relationship.{Relationship}
use Rattle.dv_store.specs.declared.keys.RowKey.{RowKey}
use Rattle.dv_store.specs.World.{World}
use Rattle.dv_cascade.specs.declared.lookup.LookupKey.{LookupKey}
use Rattle.dv_cascade.specs.Chains.{is_among}
use Rattle.dv_cascade.specs.Removal.{lookup_cmp, IsOutside}

-- whether two are one lookup
abbrev pub is_lookup : LookupKey → LookupKey → Bool
is_lookup a b = eq_by_cmp lookup_cmp a b

-- whether a list has a lookup
abbrev pub has_lookup : List LookupKey → LookupKey → Bool
has_lookup lookups key = list_any (is_lookup key) lookups

-- the lookups of which something is so, and no others, were added to those found before
pub record Adds (IsOf : LookupKey → Type 0) (old new : List LookupKey) : Type 0 where
  pub exactly : (key : LookupKey) → IsTrue (has_lookup new key) ↔ (IsTrue (has_lookup old key) ⊎ IsOf key)

-- a lookup, where its row is outside a set
pub record IsSpared (set : List RowKey) (lookup key : LookupKey) : Type 0 where
  pub is : key ≡ lookup
  pub outside : is_among set lookup.row ≡ false

-- a relationship's lookup of a row outside a set names a parent
pub record Names (w : World) (r : Relationship) (set : List RowKey) (parent : RowKey) (lookup : LookupKey) : Type 0 where
  pub column : lookup.column ≡ r.column
  pub is : IsOutside w r set parent lookup.row
