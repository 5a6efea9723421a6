use Rattle.std.proofs.Common.{◌≡◌, take, map}
use Rattle.serde_json.specs.View.{view}
use Rattle.dv_print.specs.Printed.{change_data}
use Rattle.dv_print.proofs.printing.changes_json.Given as goal

abbrev pub invariant-loop-change : goal.invariant-loop-change
invariant-loop-change l = map view l.list.items ≡ map change_data (take l.change-index l.changes)
