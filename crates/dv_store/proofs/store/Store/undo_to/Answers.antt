use Rattle.dv_work.proofs.HistoryLaws.{seen_by-back_at}
use Rattle.dv_store.specs.Kept.{world_in}
use Rattle.dv_store.proofs.store.Store.undo_to.Goals as goal

pub returns : goal.returns
returns c = rw (c.undo_to.ensures, ← c.self.view_is) (seen_by-back_at world_in c.self.inside.cells c.args.mark)
