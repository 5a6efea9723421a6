use Rattle.std.proofs.Common.{◌≡◌, ◌+◌, ◌*◌, ◌≤◌, drop}
use Rattle.dv_schema.specs.First.{first_from}
use Rattle.dv_meta.specs.Columns.{column_number}
use Rattle.dv_meta.specs.NameTaken.{taken_in}
use Rattle.dv_meta.proofs.TakenLaws.{takes_at}
use Rattle.dv_meta.proofs.passes.taken_names.taken_in.Given as goal

abbrev pub invariant-loop-j : goal.invariant-loop-j
invariant-loop-j l = record {
  few : l.number ≤ 8 + 3 * l.j;
  counted : l.number ≡ column_number l.table l.j;
  first : taken_in l.table ≡ first_from (takes_at l.table) l.j (drop l.j l.table.columns);
}
