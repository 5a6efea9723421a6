use Rattle.std.proofs.Common.{◌≡◌, ◌≤◌, ◌+◌, ap, sym, ◌∙◌, arith}
use Rattle.std.specs.Prelude.{true, false}
use Rattle.std.specs.FinMap as map
use Rattle.dv_store.proofs.KeptLaws.{row_total}
use Rattle.dv_store.proofs.Counts.{len_there}
use Rattle.dv_store.proofs.Removes.{row_total-row_removed}
use Rattle.dv_store.proofs.removing.rows_after.Goals as goal

pub overflow_sub-result : goal.overflow_sub-result
overflow_sub-result c =
    let w = c.args.cells.now.present.world in
    let n : c.totals-rows.result.rows ≡ map.len w.rows + map.len w.removals = ap (λ t. t.rows) c.totals-rows.ensures ∙ c.requires.well.rows in
    let one : 1 ≤ map.len w.rows = len_there row_total w.rows c.args.key c.requires.there in
    omega (arith, n, one)

pub returns-then-adds_removal : goal.returns-then-adds_removal
returns-then-adds_removal c = row_total-row_removed c.args.cells.now.present.world c.args.key c.totals-rows.result.rows true
    (ap (λ t. t.rows) c.totals-rows.ensures ∙ c.requires.well.rows) c.requires.there (sym c.adds_removal.ensures ∙ c.if-adds_removal.true)

pub returns-else-adds_removal : goal.returns-else-adds_removal
returns-else-adds_removal c = row_total-row_removed c.args.cells.now.present.world c.args.key c.totals-rows.result.rows false
    (ap (λ t. t.rows) c.totals-rows.ensures ∙ c.requires.well.rows) c.requires.there (sym c.adds_removal.ensures ∙ c.if-adds_removal.false)
