use Rattle.std.proofs.Common.{◌≡◌, ◌≤◌, ◌+◌, ◌-◌, ap, sym, subst, ◌∙◌, arith}
use Rattle.std.specs.FinMap as map
use Rattle.dv_store.specs.Kept.{IsWell}
use Rattle.dv_store.proofs.KeptLaws.{row_total}
use Rattle.dv_store.proofs.Counts.{len_there}
use Rattle.dv_store.proofs.Written.{on_ok}
use Rattle.dv_store.proofs.Raises.{IsWell-removal_gone}
use Rattle.dv_store.proofs.raising.drop_removal.Goals as goal

pub overflow_sub-rows : goal.overflow_sub-rows
overflow_sub-rows c =
    let w = c.args.cells.now.present.world in
    let n : c.totals-rows.result.rows ≡ map.len w.rows + map.len w.removals = ap (λ t. t.rows) c.totals-rows.ensures ∙ c.requires.well.rows in
    let one : 1 ≤ map.len w.removals = len_there row_total w.removals c.args.key c.requires.there in
    omega (arith, n, one)

pub returns-clause-ok : goal.returns-clause-ok
returns-clause-ok c =
    let p = c.args.cells.now.present in
    let rows = c.totals-rows.result.rows - 1 in
    on_ok c.take_removal.result c.take_removal.ensures.ok (λ ok. record {
      world = ap (λ h. h.present.world) ok;
      well = subst IsWell (sym (ap (λ h. h.present) ok)) (IsWell-removal_gone p c.args.key c.requires.well c.requires.there rows (ap (λ t. t.rows - 1) c.totals-rows.ensures));
      earlier = ap (λ h. h.earlier) ok;
    })
