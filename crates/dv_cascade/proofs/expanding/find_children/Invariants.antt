use Rattle.dv_cascade.specs.Found.{Finds}
use Rattle.dv_cascade.proofs.Leading.{LeadsUpTo, left_after}
use Rattle.dv_cascade.proofs.expanding.find_children.Given as goal

abbrev pub invariant-children : goal.invariant-children
invariant-children l = Finds l.fn.store.present.rows (LeadsUpTo l.fn.store.present l.fn.relationship l.fn.cascade l.fn.parent l.after) l.fn.found l.found

abbrev pub decreases-children : goal.decreases-children
decreases-children l = left_after l.after
