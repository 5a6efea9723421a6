use Rattle.dv_store.proofs.Touches.{are_changes}
use Rattle.dv_store.proofs.changes.changes_since.Goals as goal

pub returns : goal.returns
returns c = rw (← c.cells.view_is, c.in_ok-places.ensures) (are_changes c.cells.inside.shape c.cells.inside.shelf c.args.mark c.in_ok-touched.touched.entries c.cells.invariant c.len-ordered.ensures.ordered c.in_ok-touched.ensures.told)
