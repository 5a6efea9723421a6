use Rattle.std.proofs.Common.{ap, ◌∙◌}
use Rattle.dv_store.specs.Raised.{removals_dropped}
use Rattle.dv_store.proofs.Written.{on_ok}
use Rattle.dv_store.proofs.Raises.{raised}
use Rattle.dv_store.proofs.raising.raise_floor.Goals as goal

pub returns-clause-ok : goal.returns-clause-ok
returns-clause-ok c =
    let p = c.args.cells.now.present in
    let begun = c.in_ok-begin.ensures.ok in
    on_ok c.drop_removals.result c.drop_removals.ensures.ok (λ step. record {
      world = step.world ∙ ap (λ h. removals_dropped h.present.world c.args.floor) begun ∙ raised p c.totals-totals.result c.args.floor c.totals-totals.ensures;
      well = step.well;
      earlier = step.earlier ∙ ap (λ h. h.earlier) begun;
    })
