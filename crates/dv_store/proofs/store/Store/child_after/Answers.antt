use Rattle.dv_store.proofs.Watched.{next_child}
use Rattle.dv_store.proofs.store.Store.child_after.Goals as goal

pub returns : goal.returns
returns c = rw (← c.self.view_is) (next_child c.self.inside.cells.present c.self.invariant.present c.args.link c.args.parent (rw (← c.self.view_is) at c.requires) c.args.after c.next_entry.result c.next_entry.ensures)
