use Rattle.std.proofs.Common.{sym, ap, ◌∙◌, arith, option_map}
use Rattle.dv_query_check.specs.Each.{each_of}
use Rattle.dv_query_check.specs.Resolved.{column_number, column_numbers}
use Rattle.dv_query_check.proofs.EachLaws.{behind, each-first, each-more, each-none, each-end}
use Rattle.dv_query_check.proofs.columns.column_numbers.Goals as goal

pub loop-name-init : goal.loop-name-init
loop-name-init c =
    let all = each_of (column_number (option_map (λ t. t.now) c.args.table)) c.args.names.now in
    each-first all ∙ ap (λ made. behind made all) (sym c.in_ok-numbers.ensures)

pub loop-name-preserved : goal.loop-name-preserved
loop-name-preserved c =
    c.loop-name.invariant ∙ each-more (column_number (option_map (λ t. t.now) c.args.table)) c.args.names.now c.loop-name.name-index c.name-item.result c.in-Some.number c.loop-name.numbers c.push.new.self
    (omega arith) c.name-item.is (sym c.column_number.ensures ∙ c.in-Some.is) c.in_ok-push-in-Some.ensures.ok

pub returns-in-None : goal.returns-in-None
unfolding column_numbers
returns-in-None c =
    sym (c.loop-name.invariant ∙ each-none (column_number (option_map (λ t. t.now) c.args.table)) c.args.names.now c.loop-name.name-index c.name-item.result c.loop-name.numbers (omega arith) c.name-item.is (sym c.column_number.ensures ∙ c.in-None.is))

pub returns : goal.returns
unfolding column_numbers
returns c = sym (c.loop-name.invariant ∙ each-end (column_number (option_map (λ t. t.now) c.args.table)) c.args.names.now c.loop-name.name-index c.loop-name.numbers (omega arith))
