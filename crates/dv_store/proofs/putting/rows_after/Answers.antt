use Rattle.std.proofs.Common.{◌+◌, ap, sym, ◌∙◌, arith}
use Rattle.std.specs.Prelude.{true, false}
use Rattle.dv_store.proofs.Puts.{row_total-row_put, few_rows_without}
use Rattle.dv_store.proofs.putting.rows_after.Goals as goal

pub overflow_add-result : goal.overflow_add-result
overflow_add-result c =
    let few = few_rows_without c.args.cells.now.present c.args.key c.requires in
    omega (arith, few, c.rows_without_removal-rows.ensures)

pub returns-then-has_row : goal.returns-then-has_row
returns-then-has_row c = λ row. c.rows_without_removal-rows.ensures ∙ row_total-row_put c.args.cells.now.present.world c.args.key row true (sym c.has_row.ensures ∙ c.if-has_row.true)

pub returns-else-has_row : goal.returns-else-has_row
returns-else-has_row c = λ row. ap (λ n. n + 1) c.rows_without_removal-rows.ensures ∙ row_total-row_put c.args.cells.now.present.world c.args.key row false (sym c.has_row.ensures ∙ c.if-has_row.false)
