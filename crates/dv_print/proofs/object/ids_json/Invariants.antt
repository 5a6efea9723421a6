use Rattle.std.proofs.Common.{◌≡◌, take, map}
use Rattle.serde_json.specs.View.{view}
use Rattle.dv_value.specs.Printed.{id_data}
use Rattle.dv_print.proofs.object.ids_json.Given as goal

abbrev pub invariant-loop-id : goal.invariant-loop-id
invariant-loop-id l = map view l.list.items ≡ map id_data (take l.id-index l.ids)
