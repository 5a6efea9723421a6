use Rattle.std.proofs.Common.{take}
use Rattle.dv_meta.specs.Index.{FindsEach}
use Rattle.dv_meta.proofs.index.table_columns.columns_of_each.Given as goal

abbrev pub invariant-loop-table : goal.invariant-loop-table
invariant-loop-table l = FindsEach l.columns.items (take l.table-index l.tables)
