use Rattle.dv_value.specs.declared.id.Id.{Id}
use Rattle.dv_store.specs.Keys.{row_key}
use Rattle.dv_store.specs.Cursors.{IsPast}
use Rattle.dv_cascade.specs.Removal.{IsOutside}
use Rattle.dv_cascade.proofs.Leading.{left_after}
use Rattle.dv_cascade.proofs.blocking.child_outside.Given as goal

abbrev pub invariant-children : goal.invariant-children
invariant-children l = (other : Id) → IsOutside l.fn.store.present l.fn.relationship l.fn.set l.fn.parent (row_key l.fn.relationship.child other) → IsPast l.after other

abbrev pub decreases-children : goal.decreases-children
decreases-children l = left_after l.after
