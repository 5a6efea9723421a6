use Rattle.std.proofs.Common.{◌↔◌, length}
use Rattle.dv_cells.specs.Bytes.{Ascend}
use Rattle.dv_cells.proofs.roles.ascend.Given as goal

-- the entries that are left decide
abbrev pub invariant-loop-first : goal.invariant-loop-first
invariant-loop-first l = Ascend l.rest ↔ Ascend l.entries

abbrev pub decreases-loop-first : goal.decreases-loop-first
decreases-loop-first l = length l.rest
