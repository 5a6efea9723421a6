-- Business units stand under one another and form one tree.
use Rattle.std.specs.Prelude.{◌≡◌, ℕ, zero, suc, Bool, ◌==◌, ◌&&◌, List, [], ◌∷◌, length, Some, IsSome}
use Rattle.std.specs.List.{list_any}
use Rattle.std.specs.Option.{unwrap_or}
use Rattle.dv_value.specs.declared.id.Id.{Id}
use Rattle.dv_units.specs.Chart.{Chart, at, is_unit}

-- the unit that a unit stands under; the root stands under itself
abbrev pub parent_of : List (Id × Id) → Id → Id
parent_of units id = unwrap_or (at units id) id

-- the unit so many levels up
unfoldable pub up : ℕ → List (Id × Id) → Id → Id
up zero units id = id
up (suc n) units id = up n units (parent_of units id)

-- a unit and those above it, over so many levels
unfoldable pub line : ℕ → List (Id × Id) → Id → List Id
line zero units id = []
line (suc n) units id = id ∷ line n units (parent_of units id)

-- a unit is within another where it is there and some number of levels up from it is the other
pub record IsWithin (chart : Chart) (unit above : Id) : Type 0 where
  pub there : IsSome (at chart.units unit)
  pub levels : ℕ
  pub leads : up levels chart.units unit ≡ above

-- the same as a test: no line has more levels than there are units
unfoldable pub is_within : Chart → Id → Id → Bool
is_within chart unit above = is_unit chart unit && list_any (λ id. above.0 == id.0) (line (length chart.units) chart.units unit)

-- the root is its own parent
abbrev pub is_root : Chart → Id → Bool
is_root chart unit = (parent_of chart.units unit).0 == unit.0

-- the units form one tree: each parent is there, and from each unit the root is some levels up
pub record IsTree (units : List (Id × Id)) : Type 0 where
  pub root : Id
  pub own : at units root ≡ Some root
  pub parents : (unit parent : Id) → at units unit ≡ Some parent → IsSome (at units parent)
  pub leads : (unit : Id) → IsSome (at units unit) → (levels : ℕ) × (up levels units unit ≡ root)
