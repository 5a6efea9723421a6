-- What blocks a removal, and which lookups it empties: rows outside a set that name rows of it.
use Rattle.std.specs.Prelude.{◌≡◌, ◌<◌, ℕ, Bool, true, false, Option, None, Some, List}
use Rattle.std.specs.declared.cmp.Ordering.{Ordering}
use Rattle.dv_schema.specs.declared.definition.Definition.{Definition}
use Rattle.dv_schema.specs.declared.relationship.Cascade as kind
use Rattle.dv_schema.specs.declared.relationship.Cascade.TheVariants.{Cascade, Restrict}
use Rattle.dv_schema.specs.declared.relationship.Relationship.{Relationship}
use Rattle.dv_store.specs.declared.keys.RowKey.{RowKey}
use Rattle.dv_store.specs.World.{World}
use Rattle.dv_cascade.specs.declared.lookup.LookupKey.{LookupKey}
use Rattle.dv_cascade.specs.contracts.lookup.LookupKeyOrd.TheImpl as lookup_order
use Rattle.dv_cascade.specs.Links.{relationship_at, Refers}
use Rattle.dv_cascade.specs.Chains.{is_among}

-- a row that names a parent by a relationship is outside a set
pub record IsOutside (w : World) (r : Relationship) (set : List RowKey) (parent child : RowKey) : Type 0 where
  pub refers : Refers w r child parent
  pub outside : is_among set child ≡ false

-- some row does so
pub record HasOutside (w : World) (r : Relationship) (set : List RowKey) (parent : RowKey) : Type 0 where
  pub child : RowKey
  pub is : IsOutside w r set parent child

-- a row outside a set names a row of it by a relationship
pub record IsReferredTo (w : World) (r : Relationship) (set : List RowKey) : Type 0 where
  pub parent : RowKey
  pub inside : is_among set parent ≡ true
  pub has : HasOutside w r set parent

-- whether a cascade restricts removals
abbrev pub is_restrict : kind.Cascade → Bool
is_restrict Restrict = true
is_restrict _ = false

-- a relationship blocks the removal of a set: it restricts removals, and a row outside the set names a row of it
pub record BlocksBy (w : World) (set : List RowKey) (r : Relationship) : Type 0 where
  pub restricts : is_restrict r.delete ≡ true
  pub referred : IsReferredTo w r set

-- the relationship of a number does so
pub record Blocks (w : World) (d : Definition) (set : List RowKey) (number : ℕ) : Type 0 where
  pub relationship : Relationship
  pub there : relationship_at d number ≡ Some relationship
  pub by : BlocksBy w set relationship

-- the least number of which something is so
pub record IsLeastNumber (IsOf : ℕ → Type 0) (number : ℕ) : Type 0 where
  pub is : IsOf number
  pub least : (other : ℕ) → other < number → IsOf other → ⊥

-- that number, or none where it is so of none
abbrev pub IsFirst : (ℕ → Type 0) → Option ℕ → Type 0
IsFirst IsOf None = (number : ℕ) → IsOf number → ⊥
IsFirst IsOf (Some number) = IsLeastNumber IsOf number

-- lookups by table, id and column
abbrev pub lookup_cmp : LookupKey → LookupKey → Ordering
lookup_cmp = lookup_order.ghosts.cmp

-- Whether a removal empties lookups: unless it takes the children along, or they hold the parent back. Of the cascades
-- that a removal can have this is RemoveLink alone.
abbrev pub empties_lookups : kind.Cascade → Bool
empties_lookups Cascade = false
empties_lookups Restrict = false
empties_lookups _ = true

-- a relationship's lookup of a row outside a set names a row of the set
pub record NamesInto (w : World) (r : Relationship) (set : List RowKey) (lookup : LookupKey) : Type 0 where
  pub column : lookup.column ≡ r.column
  pub parent : RowKey
  pub inside : is_among set parent ≡ true
  pub is : IsOutside w r set parent lookup.row

-- a relationship empties a lookup where a set is removed: it empties lookups, and this is one of a row outside that names a row of the set
pub record EmptiesBy (w : World) (set : List RowKey) (r : Relationship) (lookup : LookupKey) : Type 0 where
  pub empties : empties_lookups r.delete ≡ true
  pub into : NamesInto w r set lookup

-- some relationship of the definition does so
pub record IsCleared (w : World) (d : Definition) (set : List RowKey) (lookup : LookupKey) : Type 0 where
  pub number : ℕ
  pub relationship : Relationship
  pub there : relationship_at d number ≡ Some relationship
  pub by : EmptiesBy w set relationship lookup
