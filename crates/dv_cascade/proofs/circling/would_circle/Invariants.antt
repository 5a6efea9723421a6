use Rattle.dv_cascade.specs.Chains.{Reaches}
use Rattle.dv_cascade.specs.Circles.{IsUnderParent}
use Rattle.dv_cascade.proofs.Climbing.{height}
use Rattle.dv_cascade.proofs.circling.would_circle.Given as goal

abbrev pub invariant-parents : goal.invariant-parents
invariant-parents l = (Reaches (IsUnderParent l.fn.store.present l.fn.definition) l.above l.fn.row → Reaches (IsUnderParent l.fn.store.present l.fn.definition) l.fn.parent l.fn.row)
    × (Reaches (IsUnderParent l.fn.store.present l.fn.definition) l.fn.parent l.fn.row → Reaches (IsUnderParent l.fn.store.present l.fn.definition) l.above l.fn.row)

abbrev pub decreases-parents : goal.decreases-parents
decreases-parents l = height l.fn.store.present l.fn.definition l.above
