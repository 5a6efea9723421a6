use Rattle.std.proofs.Common.{◌≡◌, map, drop, option_map}
use Rattle.dv_schema.specs.First.{first_from}
use Rattle.dv_query_check.specs.OrderFaults.{fault_of_order, first_order_fault}
use Rattle.dv_query_check.specs.Placed.{link_at}
use Rattle.dv_query_check.proofs.orders.first_order_fault.Given as goal

abbrev pub invariant-loop-i : goal.invariant-loop-i
invariant-loop-i l = let base = option_map (λ t. t.now) l.base in
    first_order_fault base (map link_at l.links) l.orders ≡ first_from (fault_of_order base (map link_at l.links)) l.i (drop l.i l.orders)
