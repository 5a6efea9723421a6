use Rattle.std.proofs.Common.{◌+◌, ap, sym, ◌∙◌, arith}
use Rattle.std.specs.Prelude.{true, false}
use Rattle.dv_store.proofs.Grants.{len-set, few_without}
use Rattle.dv_store.proofs.granting.grants_after.Goals as goal

pub overflow_add-result : goal.overflow_add-result
overflow_add-result c =
    let few = few_without c.args.cells.now.present c.args.key c.requires in
    omega (arith, few, c.grants_without-grants.ensures)

pub returns-then-is_none : goal.returns-then-is_none
returns-then-is_none c = c.grants_without-grants.ensures ∙ len-set c.args.cells.now.present.world c.args.key c.args.direct c.args.inherited true (sym c.is_none.ensures ∙ c.if-is_none.true)

pub returns-else-is_none : goal.returns-else-is_none
returns-else-is_none c = ap (λ n. n + 1) c.grants_without-grants.ensures ∙ len-set c.args.cells.now.present.world c.args.key c.args.direct c.args.inherited false (sym c.is_none.ensures ∙ c.if-is_none.false)
