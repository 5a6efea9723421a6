use Rattle.std.proofs.Common.{sym, ap, ◌∙◌, arith, map}
use Rattle.dv_query_check.specs.Each.{each_of}
use Rattle.dv_query_check.specs.Placed.{link_at, source_at}
use Rattle.dv_query_check.specs.Resolved.{resolved_condition, resolved_conditions}
use Rattle.dv_query_check.proofs.EachLaws.{behind, each-first, each-more, each-none, each-end}
use Rattle.dv_query_check.proofs.filtering.resolve_conditions.Goals as goal

pub loop-condition-init : goal.loop-condition-init
loop-condition-init c =
    let all = each_of (resolved_condition (source_at c.args.own) (map link_at c.args.links.now)) c.args.conditions.now in
    each-first all ∙ ap (λ made. behind made all) (sym c.in_ok-resolved.ensures)

pub loop-condition-preserved : goal.loop-condition-preserved
loop-condition-preserved c =
    c.loop-condition.invariant ∙ each-more (resolved_condition (source_at c.args.own) (map link_at c.args.links.now)) c.args.conditions.now c.loop-condition.condition-index c.condition-item.result c.in-Some.condition c.loop-condition.resolved c.push.new.self
    (omega arith) c.condition-item.is (sym c.in_ok-condition.ensures ∙ c.in-Some.is) c.in_ok-push-in-Some.ensures.ok

pub returns-in-None : goal.returns-in-None
unfolding resolved_conditions
returns-in-None c =
    sym (c.loop-condition.invariant ∙ each-none (resolved_condition (source_at c.args.own) (map link_at c.args.links.now)) c.args.conditions.now c.loop-condition.condition-index c.condition-item.result c.loop-condition.resolved (omega arith) c.condition-item.is (sym c.in_ok-condition.ensures ∙ c.in-None.is))

pub returns : goal.returns
unfolding resolved_conditions
returns c = sym (c.loop-condition.invariant ∙ each-end (resolved_condition (source_at c.args.own) (map link_at c.args.links.now)) c.args.conditions.now c.loop-condition.condition-index c.loop-condition.resolved (omega arith))
