use Rattle.std.proofs.Common.{◌≡◌, drop}
use Rattle.dv_message.specs.Columns.{values_fault}
use Rattle.dv_message.proofs.columns.check_values.Given as goal

abbrev pub invariant-loop-value : goal.invariant-loop-value
invariant-loop-value l = values_fault l.fn.writing l.columns l.values ≡ values_fault l.fn.writing l.columns (drop l.value-index l.values)
