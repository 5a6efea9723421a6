use Rattle.std.proofs.Common.{◌≡◌, length}
use Rattle.dv_work.specs.Journal.{entries_of}
use Rattle.dv_work.proofs.shelf.Shelf.forget.Given as goal

abbrev pub invariant-loop-change : goal.invariant-loop-change
invariant-loop-change g l = entries_of l.self-inside.places.entries ≡ l.fn.self.present

abbrev pub decreases-loop-change : goal.decreases-loop-change
decreases-loop-change g l = length l.self-inside.journal.items
