use Rattle.std.proofs.Common.{ap, sym, ◌∙◌}
use Rattle.dv_store.specs.Kept.{row_in}
use Rattle.dv_store.proofs.KeptLaws.{get-rows}
use Rattle.dv_store.proofs.cells.Cells.row.Goals as goal

pub returns : goal.returns
returns c = rw (← c.self.view_is) (c.row_in.ensures ∙ ap row_in c.get.ensures.value ∙ sym (get-rows c.self.inside.shape c.self.inside.shelf.present c.get.ensures.ordered c.args.key))
