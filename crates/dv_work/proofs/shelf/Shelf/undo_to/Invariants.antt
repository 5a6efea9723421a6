use Rattle.std.proofs.Common.{◌≡◌, ◌≤◌, length}
use Rattle.dv_work.specs.History.{back_at}
use Rattle.dv_work.specs.Journal.{history_of, IsWhole}
use Rattle.dv_work.proofs.shelf.Shelf.undo_to.Given as goal

abbrev pub invariant-loop-self : goal.invariant-loop-self
invariant-loop-self g l = record {
  whole : IsWhole g.K.Ord.cmp l.self-inside.kept l.self-inside.places.entries l.self-inside.journal.items;
  marked : l.mark ≤ l.self-inside.kept;
  same : back_at (history_of g.K.Ord.cmp l.self-inside.places.entries l.self-inside.journal.items) l.mark ≡ back_at l.fn.self l.mark;
}

abbrev pub decreases-loop-self : goal.decreases-loop-self
decreases-loop-self g l = length l.self-inside.journal.items
