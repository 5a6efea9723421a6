use Rattle.std.proofs.Common.{◌≡◌, take}
use Rattle.dv_value.proofs.raw.Values.copy.Given as goal

abbrev pub invariant-loop-name : goal.invariant-loop-name
invariant-loop-name l = l.values ≡ take l.name-index l.name-items
