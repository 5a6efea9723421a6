-- What a keeper tells of itself, and what a call makes of it.
use Rattle.std.specs.Prelude.{⊤, ◌≡◌, ◌⊎◌, Bool, IsTrue, ℕ, List}
use Rattle.std.specs.Prelude.{Option, None, Some, IsSome, option_map}
use Rattle.dv_keeper.specs.Cells.{Cells}

-- What a keeper tells of itself.
pub record KeeperState : Type 0 where
  -- whether it is open
  pub is_open : Bool
  -- the bytes of the path that it was last opened at, if there was one
  pub place : Option (List ℕ)
  -- the cells that it holds, where it tells them
  pub told : Option Cells
  -- how often it failed
  pub faults : ℕ

-- where the cells are told now, they were told before, and the change made these of them
abbrev pub Tells : (Cells → Cells) → Option Cells → Option Cells → Type 0
Tells change old None = ⊤
Tells change old (Some cells) = option_map change old ≡ Some cells

-- the call changed the cells alone, and in this way
pub record Becomes (change : Cells → Cells) (before after : KeeperState) : Type 0 where
  pub is_open : after.is_open ≡ before.is_open
  pub place : after.place ≡ before.place
  pub told : Tells change before.told after.told

-- the keeper is known: it is open, or tells its cells
abbrev pub IsKnown : KeeperState → Type 0
IsKnown state = IsTrue state.is_open ⊎ IsSome state.told

-- opening leaves the cells; a keeper that tells nothing begins to tell only when it is first opened
abbrev pub StaysThrough : Bool → Option Cells → Option Cells → Type 0
StaysThrough was_open old None = ⊤
StaysThrough was_open None (Some cells) = IsTrue was_open → ⊥
StaysThrough was_open (Some held) (Some cells) = cells ≡ held

-- the keeper is open at a path, and holds the cells that it held
pub record Opens (path : Option (List ℕ)) (before after : KeeperState) : Type 0 where
  pub is_open : IsTrue after.is_open
  pub place : after.place ≡ path
  pub told : StaysThrough before.is_open before.told after.told
