use Rattle.std.proofs.Common.{length}
use Rattle.dv_http.specs.Head.{AreEmptyLines}
use Rattle.dv_http.proofs.lines.are_empty_lines.Given as goal

abbrev pub invariant-loop-rest : goal.invariant-loop-rest
invariant-loop-rest l = record {
  all : AreEmptyLines l.rest → AreEmptyLines l.bytes;
  rest : AreEmptyLines l.bytes → AreEmptyLines l.rest;
}

abbrev pub decreases-loop-rest : goal.decreases-loop-rest
decreases-loop-rest l = length l.rest
