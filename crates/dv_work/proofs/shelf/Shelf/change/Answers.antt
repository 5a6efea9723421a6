use Rattle.std.proofs.Common.{arith}
use Rattle.dv_work.proofs.JournalLaws.{history_of-with_change, IsWhole-with_change, kept_count-le}
use Rattle.dv_work.proofs.shelf.Shelf.change.Goals as goal

pub overflow_add-self : goal.overflow_add-self
overflow_add-self g c =
    let counted = (IsWhole-with_change g.met.K.Ord.total g.met.K.Key.exact _ _ _ _ _ _ _ _ c.write.ensures.ordered c.in-Ok.ensures.places c.in-Ok.ensures.journal c.self.invariant).counted in
    let few = kept_count-le c.write.new.journal.items in
    rw c.from.ensures (omega (arith, counted, few, c.in-Ok.ensures.fits))

pub invariant_of-self : goal.invariant_of-self
invariant_of-self g c = rw c.from.ensures (IsWhole-with_change g.met.K.Ord.total g.met.K.Key.exact _ _ _ _ _ _ _ _ c.write.ensures.ordered c.in-Ok.ensures.places c.in-Ok.ensures.journal c.self.invariant)

pub returns-in-Ok-clause-ok : goal.returns-in-Ok-clause-ok
returns-in-Ok-clause-ok g c = rw (← c.self.view_is) (history_of-with_change g.met.K.Ord.total g.met.K.Key.exact _ _ _ _ _ _ _ c.write.ensures.ordered c.in-Ok.ensures.places c.in-Ok.ensures.journal)
