use Rattle.dv_work.proofs.HistoryLaws.{seen_by-back_at}
use Rattle.dv_store.specs.Kept.{kept_of}
use Rattle.dv_store.proofs.cells.Cells.undo_to.Goals as goal

pub returns : goal.returns
returns c = rw (c.undo_to.ensures, ← c.self.view_is) (seen_by-back_at (kept_of c.self.inside.shape) c.self.inside.shelf c.args.mark)
