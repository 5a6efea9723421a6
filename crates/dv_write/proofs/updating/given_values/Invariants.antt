use Rattle.std.proofs.Common.{◌≡◌, ◌++◌, drop}
use Rattle.dv_write.specs.Updating.{placed_from}
use Rattle.dv_write.proofs.updating.given_values.Given as goal

abbrev pub invariant-loop-number : goal.invariant-loop-number
invariant-loop-number l = l.placed ++ placed_from l.number l.fn.values (drop l.number l.columns) ≡ placed_from 0 l.fn.values l.columns
