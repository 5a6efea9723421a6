use Rattle.std.proofs.Common.{◌≡◌, map}
use Rattle.serde_json.specs.View.{view}
use Rattle.dv_wire.specs.Queries.{order_of}
use Rattle.dv_wire.proofs.querying.orders_of.Given as goal

abbrev pub invariant-loop-item : goal.invariant-loop-item
invariant-loop-item l = l.orders ≡ map order_of (map view l.yielded)
