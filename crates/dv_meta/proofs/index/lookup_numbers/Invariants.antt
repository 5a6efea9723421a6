use Rattle.std.proofs.Common.{take}
use Rattle.dv_meta.specs.Index.{FindsLookups}
use Rattle.dv_meta.proofs.index.lookup_numbers.Given as goal

abbrev pub invariant-loop-i : goal.invariant-loop-i
invariant-loop-i l = FindsLookups l.lookups (take l.i l.relationships)
