use Rattle.std.proofs.Common.{ap, sym, ◌∙◌}
use Rattle.dv_store.specs.Kept.{grant_in}
use Rattle.dv_store.proofs.KeptLaws.{get-grants}
use Rattle.dv_store.proofs.cells.Cells.grant.Goals as goal

pub returns : goal.returns
returns c = rw (← c.self.view_is) (c.grant_in.ensures ∙ ap grant_in c.get.ensures.value ∙ sym (get-grants c.self.inside.shape c.self.inside.shelf.present c.get.ensures.ordered c.args.key))
