use Rattle.std.proofs.Common.{◌≡◌, take}
use Rattle.dv_write.proofs.editing.copied.Given as goal

abbrev pub invariant-loop-value : goal.invariant-loop-value
invariant-loop-value l = l.values ≡ take l.value-index l.fn.row.values
