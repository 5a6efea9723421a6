use Rattle.std.proofs.Common.{sym, ap, ◌∙◌, arith, map}
use Rattle.dv_query_check.specs.Each.{each_of}
use Rattle.dv_query_check.specs.Placed.{link_at, source_at}
use Rattle.dv_query_check.specs.Resolved.{resolved_order, resolved_orders}
use Rattle.dv_query_check.proofs.EachLaws.{behind, each-first, each-more, each-none, each-end}
use Rattle.dv_query_check.proofs.resolving.resolve_orders.Goals as goal

pub loop-order-init : goal.loop-order-init
loop-order-init c =
    let all = each_of (resolved_order (source_at c.args.own) (map link_at c.args.links.now)) c.args.orders.now in
    each-first all ∙ ap (λ made. behind made all) (sym c.in_ok-resolved.ensures)

pub loop-order-preserved : goal.loop-order-preserved
loop-order-preserved c =
    c.loop-order.invariant ∙ each-more (resolved_order (source_at c.args.own) (map link_at c.args.links.now)) c.args.orders.now c.loop-order.order-index c.order-item.result c.in-Some.order c.loop-order.resolved c.push.new.self
    (omega arith) c.order-item.is (sym c.resolve_order.ensures ∙ c.in-Some.is) c.in_ok-push-in-Some.ensures.ok

pub returns-in-None : goal.returns-in-None
unfolding resolved_orders
returns-in-None c =
    sym (c.loop-order.invariant ∙ each-none (resolved_order (source_at c.args.own) (map link_at c.args.links.now)) c.args.orders.now c.loop-order.order-index c.order-item.result c.loop-order.resolved (omega arith) c.order-item.is (sym c.resolve_order.ensures ∙ c.in-None.is))

pub returns : goal.returns
unfolding resolved_orders
returns c = sym (c.loop-order.invariant ∙ each-end (resolved_order (source_at c.args.own) (map link_at c.args.links.now)) c.args.orders.now c.loop-order.order-index c.loop-order.resolved (omega arith))
