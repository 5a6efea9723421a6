use Rattle.std.proofs.Common.{◌≡◌, map}
use Rattle.serde_json.specs.View.{view}
use Rattle.dv_wire.specs.Queries.{condition_of}
use Rattle.dv_wire.proofs.querying.conditions_of.Given as goal

abbrev pub invariant-loop-item : goal.invariant-loop-item
invariant-loop-item l = l.conditions ≡ map condition_of (map view l.yielded)
