use Rattle.std.proofs.Common.{◌≡◌, ◌++◌, take}
use Rattle.dv_cells.specs.Bytes.{values_bytes}
use Rattle.dv_cells.proofs.rows.put_values.Given as goal

abbrev pub invariant-loop-value : goal.invariant-loop-value
invariant-loop-value l = l.out.items ≡ l.fn.out.items ++ values_bytes (take l.value-index l.values)
