use Rattle.std.proofs.Common.{ℕ, ◌<◌, ◌-◌}
use Rattle.dv_cascade.specs.Removal.{Blocks}
use Rattle.dv_cascade.proofs.blocking.first_blocking.Given as goal

abbrev pub invariant-relationships : goal.invariant-relationships
invariant-relationships l = ((m : ℕ) → m < l.number → Blocks l.fn.store.present l.fn.definition l.fn.set m → ⊥) × (l.number < 65536)

abbrev pub decreases-relationships : goal.decreases-relationships
decreases-relationships l = 65536 - l.number
