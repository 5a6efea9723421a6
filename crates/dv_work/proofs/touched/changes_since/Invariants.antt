use Rattle.std.proofs.Common.{◌-◌, ◌≡◌, ◌≤◌, List, Option, drop, take, length}
use Rattle.dv_work.specs.History.{back_at}
use Rattle.dv_work.specs.Journal.{before_all, history_of, kept_count}
use Rattle.dv_work.proofs.touched.changes_since.Given as goal

abbrev pub invariant-loop-left : goal.invariant-loop-left
invariant-loop-left g l = record {
  within : l.first ≤ length l.journal;
  counted : l.left ≡ kept_count (take l.first l.journal);
  same : (ps : List (g.row.K.Denot × Option g.row.V.Denot)) → back_at (history_of g.K.Ord.cmp (before_all g.K.Ord.cmp (drop l.first l.journal) ps) (take l.first l.journal)) l.mark ≡ back_at (history_of g.K.Ord.cmp ps l.journal) l.mark;
}

abbrev pub decreases-loop-left : goal.decreases-loop-left
decreases-loop-left g l = l.first
