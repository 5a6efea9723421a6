use Rattle.std.proofs.Common.{◌≡◌, drop, map}
use Rattle.dv_query_check.specs.Each.{each_of}
use Rattle.dv_query_check.specs.Placed.{link_at, source_at}
use Rattle.dv_query_check.specs.Resolved.{resolved_order}
use Rattle.dv_query_check.proofs.EachLaws.{behind}
use Rattle.dv_query_check.proofs.resolving.resolve_orders.Given as goal

abbrev pub invariant-loop-order : goal.invariant-loop-order
invariant-loop-order l = let said = resolved_order (source_at l.own) (map link_at l.links) in each_of said l.orders ≡ behind l.resolved (each_of said (drop l.order-index l.orders))
