use Rattle.std.proofs.Common.{◌≡◌, drop, option_map}
use Rattle.dv_query_check.specs.Each.{each_of}
use Rattle.dv_query_check.specs.Resolved.{column_number}
use Rattle.dv_query_check.proofs.EachLaws.{behind}
use Rattle.dv_query_check.proofs.columns.column_numbers.Given as goal

abbrev pub invariant-loop-name : goal.invariant-loop-name
invariant-loop-name l = let said = column_number (option_map (λ t. t.now) l.table) in each_of said l.names ≡ behind l.numbers (each_of said (drop l.name-index l.names))
