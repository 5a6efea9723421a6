use Rattle.std.proofs.Common.{◌≡◌, ℕ, ◌<◌, ◌-◌, length}
use Rattle.std.specs.Prelude.{Some, slice_get}
use Rattle.dv_store.specs.declared.keys.RowKey.{RowKey}
use Rattle.dv_cascade.specs.Removal.{HasOutside}
use Rattle.dv_cascade.proofs.blocking.is_referred_to.Given as goal

abbrev pub invariant-parents : goal.invariant-parents
invariant-parents l = (i : ℕ) (p : RowKey) → i < l.next → slice_get l.fn.set i ≡ Some p → HasOutside l.fn.store.present l.fn.relationship l.fn.set p → ⊥

abbrev pub decreases-parents : goal.decreases-parents
decreases-parents l = length l.fn.set - l.next
