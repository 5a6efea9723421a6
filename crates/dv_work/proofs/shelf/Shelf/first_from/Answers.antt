use Rattle.dv_work.proofs.PlaceLaws.{Ascends-entries_of}
use Rattle.dv_work.proofs.shelf.Shelf.first_from.Goals as goal

pub returns-clause-ordered : goal.returns-clause-ordered
returns-clause-ordered g c = rw (← c.self.view_is) (Ascends-entries_of g.K.Ord.cmp c.self.inside.places.entries c.first_from.ensures.ordered)
