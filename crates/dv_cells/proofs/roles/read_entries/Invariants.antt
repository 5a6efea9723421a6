use Rattle.std.proofs.Common.{length}
use Rattle.dv_cells.proofs.Listed.{IsListing}
use Rattle.dv_cells.proofs.roles.read_entries.Given as goal

abbrev pub invariant-loop-rest : goal.invariant-loop-rest
invariant-loop-rest l = IsListing l.bytes l.rest l.entries

abbrev pub decreases-loop-rest : goal.decreases-loop-rest
decreases-loop-rest l = length l.rest
