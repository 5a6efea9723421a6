use Rattle.dv_store.proofs.NextBy.{next-place, no-place}
use Rattle.dv_store.proofs.cells.Cells.next_of_removals.Goals as goal

pub returns-in-Some : goal.returns-in-Some
returns-in-Some c = rw (c.any_removal_of.ensures, ← c.self.view_is) (next-place c.self.inside.shape c.self.inside.shelf.present c.self.invariant.present c.args.after c.in-Some.key.now c.in-Some.field-0-1.now (rw c.from_any_removal.ensures at c.in-Some.ensures.entry))

pub returns-in-None : goal.returns-in-None
returns-in-None c = rw (← c.self.view_is) (no-place c.self.inside.shape c.self.inside.shelf.present c.self.invariant.present c.args.after (rw c.from_any_removal.ensures at c.in-None.ensures.entry))
