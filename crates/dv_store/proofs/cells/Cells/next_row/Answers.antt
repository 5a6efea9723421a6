use Rattle.dv_store.proofs.Nexts.{next-rows, no-rows}
use Rattle.dv_store.proofs.cells.Cells.next_row.Goals as goal

pub returns-in-Some : goal.returns-in-Some
returns-in-Some c = rw (c.row_of.ensures, ← c.self.view_is) (next-rows c.self.inside.shape c.self.inside.shelf.present c.self.invariant.present c.args.table c.args.after c.in-Some.key.now c.in-Some.field-0-1.now (rw c.from_row.ensures at c.in-Some.ensures.entry))

pub returns-in-None : goal.returns-in-None
returns-in-None c = rw (← c.self.view_is) (no-rows c.self.inside.shape c.self.inside.shelf.present c.self.invariant.present c.args.table c.args.after (rw c.from_row.ensures at c.in-None.ensures.entry))
