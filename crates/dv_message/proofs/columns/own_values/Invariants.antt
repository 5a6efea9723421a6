use Rattle.std.proofs.Common.{◌≡◌, take}
use Rattle.std.specs.Prelude.{map}
use Rattle.dv_message.specs.Columns.{given_in}
use Rattle.dv_message.proofs.columns.own_values.Given as goal

abbrev pub invariant-loop-column : goal.invariant-loop-column
invariant-loop-column l = l.own ≡ map (given_in l.fn.values) (take l.column-index l.columns)
