use Rattle.dv_store.proofs.Nexts.{next-listed, no-listed}
use Rattle.dv_store.proofs.cells.Cells.next_entry.Goals as goal

pub returns-in-Some : goal.returns-in-Some
returns-in-Some c = rw (c.entry_of.ensures, ← c.self.view_is) (next-listed c.self.inside.shape c.self.inside.shelf.present c.self.invariant.present c.args.list c.args.after c.in-Some.key.now c.in-Some.field-0-1.now (rw c.from_entry.ensures at c.in-Some.ensures.entry))

pub returns-in-None : goal.returns-in-None
returns-in-None c = rw (← c.self.view_is) (no-listed c.self.inside.shape c.self.inside.shelf.present c.self.invariant.present c.args.list c.args.after (rw c.from_entry.ensures at c.in-None.ensures.entry))
