use Rattle.std.proofs.Common.{sym, subst}
use Rattle.dv_work.specs.History.{EachState}
use Rattle.dv_store.specs.Keys.{at_counters}
use Rattle.dv_store.specs.Kept.{totals_item, IsOrdered}
use Rattle.dv_store.proofs.Written.{on_both, on_ok, seen-begun, ordered-begun}
use Rattle.dv_store.proofs.cells.Cells.begin.Goals as goal

pub invariant_of-self : goal.invariant_of-self
invariant_of-self c =
    let h = c.self.inside.shelf in
    let new = c.put_totals.new.shelf in
    on_both c.put_totals.result c.put_totals.ensures.ok c.put_totals.ensures.err
    (ordered-begun c.self.inside.shape h new at_counters (totals_item c.args.totals) c.self.invariant tt)
    (λ is. subst (EachState IsOrdered) (sym is) c.self.invariant)

pub returns-clause-ok : goal.returns-clause-ok
returns-clause-ok c = rw (← c.self.view_is) (on_ok c.put_totals.result c.put_totals.ensures.ok
    (seen-begun c.self.inside.shape c.self.inside.shelf c.put_totals.new.shelf at_counters (totals_item c.args.totals) c.self.invariant))
