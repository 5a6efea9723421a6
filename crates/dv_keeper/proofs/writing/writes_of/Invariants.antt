use Rattle.std.proofs.Common.{◌≡◌, map, take}
use Rattle.dv_keeper.specs.Memory.{write_of}
use Rattle.dv_keeper.proofs.writing.writes_of.Given as goal

abbrev pub invariant-loop-change : goal.invariant-loop-change
invariant-loop-change l = l.writes.items ≡ map write_of (take l.change-index l.changes)
