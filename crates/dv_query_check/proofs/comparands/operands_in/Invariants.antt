use Rattle.std.proofs.Common.{◌≡◌, drop}
use Rattle.dv_query_check.specs.Comparands.{operand_in}
use Rattle.dv_query_check.specs.Each.{each_of}
use Rattle.dv_query_check.proofs.EachLaws.{behind}
use Rattle.dv_query_check.proofs.comparands.operands_in.Given as goal

abbrev pub invariant-loop-raw : goal.invariant-loop-raw
invariant-loop-raw l = let said = operand_in l.operands l.kind in each_of said l.raws ≡ behind l.values (each_of said (drop l.raw-index l.raws))
