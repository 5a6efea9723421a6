-- Rows above rows, by parental links.
use Rattle.std.specs.Prelude.{◌≡◌, ℕ, suc, ◌⊎◌, Bool, true, ◌&&◌, ◌==◌, Option, None, Some, option_map, find, slice_get}
use Rattle.std.specs.FinMap as map
use Rattle.dv_schema.specs.declared.definition.Definition.{Definition}
use Rattle.dv_schema.specs.declared.relationship.Relationship.{Relationship}
use Rattle.dv_schema.specs.Definitions.{relationships_of}
use Rattle.dv_schema.specs.Sound.{is_parental}
use Rattle.dv_store.specs.declared.keys.RowKey.{RowKey}
use Rattle.dv_store.specs.Keys.{row_key}
use Rattle.dv_store.specs.Shapes.{place_of}
use Rattle.dv_store.specs.World.{World, named_in}
use Rattle.dv_cascade.specs.Links.{Refers}
use Rattle.dv_cascade.specs.Chains.{Chain, Reaches}

-- a row names another by a parental relationship of the definition
pub record IsUnderParent (w : World) (d : Definition) (child parent : RowKey) : Type 0 where
  pub number : ℕ
  pub relationship : Relationship
  pub there : slice_get (relationships_of d) number ≡ Some relationship
  pub parental : is_parental relationship ≡ true
  pub refers : Refers w relationship child parent

-- a table is the child of at most one parental relationship
abbrev pub HasOneParent : Definition → Type 0
HasOneParent d = (i j : ℕ) (r s : Relationship) → slice_get (relationships_of d) i ≡ Some r → slice_get (relationships_of d) j ≡ Some s → is_parental r ≡ true → is_parental s ≡ true → r.child ≡ s.child → r ≡ s

-- no row is above itself: no chain of one parental link or more leads from a row to itself
abbrev pub HasNoCircle : World → Definition → Type 0
HasNoCircle w d = (key : RowKey) (links : ℕ) → Chain (IsUnderParent w d) (suc links) key key → ⊥

-- whether a relationship is the parental one of a child table
abbrev pub is_parental_of : ℕ → Relationship → Bool
is_parental_of table r = is_parental r && (r.child == table)

-- the row that a row names by a relationship
abbrev pub named_by : World → RowKey → Option Relationship → Option RowKey
named_by w key None = None
named_by w key (Some r) = option_map (row_key r.parent) (named_in (map.get w.rows key) (place_of r.column))

-- the row that a row names by the parental relationship of its table
unfoldable pub parent_of : World → Definition → RowKey → Option RowKey
parent_of w d key = named_by w key (find (is_parental_of key.table) (relationships_of d))

-- each parental link of a world is one of an earlier world, or puts one row under a parent of which something is so
pub record AddsLinksOf (old new : World) (d : Definition) (row : RowKey) (IsNew : RowKey → Type 0) : Type 0 where
  pub links : (child parent : RowKey) → IsUnderParent new d child parent → IsUnderParent old d child parent ⊎ ((child ≡ row) × IsNew parent)

-- a parent is neither a row itself nor below it: no chain of parental links leads from the parent up to the row
abbrev pub IsNotUnder : World → Definition → RowKey → RowKey → Type 0
IsNotUnder w d row parent = Reaches (IsUnderParent w d) parent row → ⊥
