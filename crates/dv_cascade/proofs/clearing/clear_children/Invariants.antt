use Rattle.dv_cascade.specs.Cleared.{Adds}
use Rattle.dv_cascade.proofs.Leading.{left_after}
use Rattle.dv_cascade.proofs.Emptied.{NamesUpTo}
use Rattle.dv_cascade.proofs.clearing.clear_children.Given as goal

abbrev pub invariant-children : goal.invariant-children
invariant-children l = Adds (NamesUpTo l.fn.store.present l.fn.relationship l.fn.set l.fn.parent l.after) l.fn.cleared l.cleared

abbrev pub decreases-children : goal.decreases-children
decreases-children l = left_after l.after
