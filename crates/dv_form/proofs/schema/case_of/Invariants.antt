use Rattle.std.proofs.Common.{◌≡◌, map, drop}
use Rattle.dv_form.specs.Schemas as plain
use Rattle.dv_form.specs.Walk as walk
use Rattle.dv_form.proofs.schema.case_of.Given as goal

abbrev pub invariant-loop-case : goal.invariant-loop-case
invariant-loop-case g l = walk.case_of l.word (map plain.case_of (drop l.case-index l.cases)) ≡ walk.case_of l.word (map plain.case_of l.cases)
