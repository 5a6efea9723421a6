use Rattle.std.proofs.Common.{take, map}
use Rattle.dv_meta.specs.Index.{Finds}
use Rattle.dv_meta.proofs.index.numbering.numbers_of.Given as goal

abbrev pub invariant-loop-i : goal.invariant-loop-i
invariant-loop-i g l = Finds l.numbers (map g.T.Named.name_of (take l.i l.items))
