use Rattle.std.proofs.Common.{sym, ap, ◌∙◌, arith}
use Rattle.dv_query_check.specs.Comparands.{operand_in, operands_in}
use Rattle.dv_query_check.specs.Each.{each_of}
use Rattle.dv_query_check.proofs.EachLaws.{behind, each-first, each-more, each-none, each-end}
use Rattle.dv_query_check.proofs.comparands.operands_in.Goals as goal

pub loop-raw-init : goal.loop-raw-init
loop-raw-init c =
    let all = each_of (operand_in c.operands_of-operands.result c.args.kind.now) c.args.raws.now in
    each-first all ∙ ap (λ made. behind made all) (sym c.in_ok-values.ensures)

pub loop-raw-preserved : goal.loop-raw-preserved
loop-raw-preserved c =
    c.loop-raw.invariant ∙ each-more (operand_in c.operands_of-operands.result c.args.kind.now) c.args.raws.now c.loop-raw.raw-index c.raw-item.result c.in-Some.value c.loop-raw.values c.push.new.self
    (omega arith) c.raw-item.is (sym c.in_ok-value.ensures ∙ c.in-Some.is) c.in_ok-push-in-Some.ensures.ok

pub returns-in-None : goal.returns-in-None
unfolding operands_in
returns-in-None c = sym (
    ap (λ o. each_of (operand_in o c.args.kind.now) c.args.raws.now) (sym c.operands_of-operands.ensures)
    ∙ c.loop-raw.invariant ∙ each-none (operand_in c.operands_of-operands.result c.args.kind.now) c.args.raws.now c.loop-raw.raw-index c.raw-item.result c.loop-raw.values
    (omega arith) c.raw-item.is (sym c.in_ok-value.ensures ∙ c.in-None.is))

pub returns : goal.returns
unfolding operands_in
returns c = sym (
    ap (λ o. each_of (operand_in o c.args.kind.now) c.args.raws.now) (sym c.operands_of-operands.ensures)
    ∙ c.loop-raw.invariant ∙ each-end (operand_in c.operands_of-operands.result c.args.kind.now) c.args.raws.now c.loop-raw.raw-index c.loop-raw.values (omega arith))
