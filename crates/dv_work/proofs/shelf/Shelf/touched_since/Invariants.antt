use Rattle.std.proofs.Common.{◌≡◌, List, Option, drop}
use Rattle.dv_work.specs.Entries.{Ascends, Tells, value_at}
use Rattle.dv_work.specs.History.{back_at}
use Rattle.dv_work.specs.Journal.{before_all, entries_of}
use Rattle.dv_work.proofs.shelf.Shelf.touched_since.Given as goal

abbrev pub invariant-loop-change : goal.invariant-loop-change
invariant-loop-change g l = (ps : List (g.row.K.Denot × Option g.row.V.Denot)) → Ascends g.K.Ord.cmp ps → entries_of (before_all g.K.Ord.cmp l.change-items ps) ≡ (back_at l.self l.mark).present
    → (q : g.row.K.Denot) → Tells (value_at g.K.Ord.cmp q l.touched.entries) (value_at g.K.Ord.cmp q (back_at l.self l.mark).present) (value_at g.K.Ord.cmp q (entries_of (before_all g.K.Ord.cmp (drop l.change-index l.change-items) ps)))
