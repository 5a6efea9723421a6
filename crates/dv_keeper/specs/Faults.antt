-- A fault of a keeper is told as it comes: `Failed` is answered exactly where its count rose.
use Rattle.std.specs.Prelude.{⊤, ◌≡◌, ℕ, ◌≤◌, Result, Ok, Err}
use Rattle.dv_base.specs.Faults.{Rose}
use Rattle.dv_keeper.specs.declared.cell.KeeperFault.{KeeperFault}
use Rattle.dv_keeper.specs.declared.cell.KeeperFault.TheVariants.{Failed, OutOfMemory}

-- the answer is `Failed`
abbrev pub HasFailed : {T : Type 0} → Result T KeeperFault → Type 0
HasFailed (Ok answer) = ⊥
HasFailed (Err Failed) = ⊤
HasFailed (Err OutOfMemory) = ⊥

-- the count rose where the answer is `Failed`, and is as it was with every other answer
abbrev pub IsCounted : {T : Type 0} → ℕ → ℕ → Result T KeeperFault → Type 0
IsCounted before now (Ok answer) = now ≡ before
IsCounted before now (Err Failed) = Rose before now
IsCounted before now (Err OutOfMemory) = now ≡ before

-- the count didn't fall, and each fault was counted as it came
pub record HasCause {T : Type 0} (before now : ℕ) (result : Result T KeeperFault) : Type 0 where
  pub later : before ≤ now
  pub counted : IsCounted before now result
