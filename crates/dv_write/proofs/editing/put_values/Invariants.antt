use Rattle.std.proofs.Common.{◌≡◌, drop}
use Rattle.dv_write.specs.Effects.{with_values}
use Rattle.dv_write.proofs.editing.put_values.Given as goal

abbrev pub invariant-loop-one : goal.invariant-loop-one
invariant-loop-one l = with_values l.row.values (drop l.one-index l.placed) ≡ with_values l.fn.row.values l.placed
