use Rattle.std.proofs.Common.{ap, sym, ◌∙◌}
use Rattle.dv_store.specs.Kept.{removal_in}
use Rattle.dv_store.proofs.KeptLaws.{get-removals}
use Rattle.dv_store.proofs.cells.Cells.removal.Goals as goal

pub returns : goal.returns
returns c = rw (← c.self.view_is) (c.removal_in.ensures ∙ ap removal_in c.get.ensures.value ∙ sym (get-removals c.self.inside.shape c.self.inside.shelf.present c.get.ensures.ordered c.args.key))
