use Rattle.std.proofs.Common.{◌≡◌, ◌+◌, ◌*◌, ◌≤◌, ◌++◌, List, length, take, flat_map}
use Rattle.dv_meta.specs.Columns.{names_of}
use Rattle.dv_meta.specs.Index.{Finds}
use Rattle.dv_schema.specs.Names.{Name}
use Rattle.dv_meta.proofs.index.table_columns.number_columns.Given as goal

abbrev pub invariant-loop-column : goal.invariant-loop-column
invariant-loop-column l = record {
  few : l.next ≤ 8 + 3 * l.column-index;
  counted : l.next ≡ l.first + length (flat_map names_of (take l.column-index l.columns));
  finds : (names : List Name) → length names ≡ l.first → Finds l.initial.numbers names → Finds l.numbers (names ++ flat_map names_of (take l.column-index l.columns));
}
