use Rattle.std.proofs.Common.{◌-◌, length}
use Rattle.dv_cascade.specs.Cleared.{Adds, Names}
use Rattle.dv_cascade.proofs.Emptied.{Below}
use Rattle.dv_cascade.proofs.clearing.clear_into.Given as goal

abbrev pub invariant-parents : goal.invariant-parents
invariant-parents l = Adds (Below l.fn.set (Names l.fn.store.present l.fn.relationship l.fn.set) l.next) l.fn.cleared l.cleared

abbrev pub decreases-parents : goal.decreases-parents
decreases-parents l = length l.fn.set - l.next
