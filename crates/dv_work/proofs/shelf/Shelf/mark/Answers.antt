use Rattle.std.proofs.Common.{sym, ap, ◌∙◌, length}
use Rattle.dv_work.proofs.JournalLaws.{length-states_of}
use Rattle.dv_work.proofs.shelf.Shelf.mark.Goals as goal

pub returns : goal.returns
returns g c = c.self.invariant.counted ∙ sym (length-states_of g.K.Ord.cmp c.self.inside.journal.items c.self.inside.places.entries) ∙ ap (λ h. length h.earlier) c.self.view_is
