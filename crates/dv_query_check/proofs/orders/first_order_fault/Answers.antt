use Rattle.std.proofs.Common.{map, option_map, refl, sym, ◌∙◌, arith}
use Rattle.dv_schema.proofs.FirstLaws.{first_from-more, first_from-found, first_from-end}
use Rattle.dv_query_check.specs.OrderFaults.{fault_of_order, first_order_fault}
use Rattle.dv_query_check.specs.Placed.{link_at}
use Rattle.dv_query_check.proofs.FaultLaws.{order_wrong, order_fine}
use Rattle.dv_query_check.proofs.orders.first_order_fault.Goals as goal

pub loop-i-init : goal.loop-i-init
unfolding first_order_fault
loop-i-init c = refl

pub returns-in-Some : goal.returns-in-Some
returns-in-Some c =
    let base = option_map (λ t. t.now) c.args.base in
    let links = map link_at c.args.links.now in
    sym (c.loop-i.invariant ∙ first_from-found (fault_of_order base links) c.args.orders.now c.loop-i.i c.index-orders-i.result c.in_ok-told.field-0 (omega arith) c.index-orders-i.is
    (order_wrong base links c.loop-i.i c.index-orders-i.result _ c.order_fault.result c.in-Some.fault c.in_ok-told.field-0 c.table_meant.ensures c.order_fault.ensures c.in-Some.is c.in_ok-told.ensures))

pub loop-i-preserved : goal.loop-i-preserved
loop-i-preserved c =
    let base = option_map (λ t. t.now) c.args.base in
    let links = map link_at c.args.links.now in
    c.loop-i.invariant ∙ first_from-more (fault_of_order base links) c.args.orders.now c.loop-i.i c.index-orders-i.result (omega arith) c.index-orders-i.is
    (order_fine base links c.loop-i.i c.index-orders-i.result _ c.order_fault.result c.table_meant.ensures c.order_fault.ensures c.in_default.is)

pub returns : goal.returns
returns c =
    sym (c.loop-i.invariant ∙ first_from-end (fault_of_order (option_map (λ t. t.now) c.args.base) (map link_at c.args.links.now)) c.args.orders.now c.loop-i.i (omega arith))
