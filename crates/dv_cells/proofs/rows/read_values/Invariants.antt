use Rattle.std.proofs.Common.{length}
use Rattle.dv_cells.proofs.Spelled.{IsReading}
use Rattle.dv_cells.proofs.rows.read_values.Given as goal

abbrev pub invariant-loop-rest : goal.invariant-loop-rest
invariant-loop-rest l = IsReading l.bytes l.rest l.values

abbrev pub decreases-loop-rest : goal.decreases-loop-rest
decreases-loop-rest l = length l.rest
