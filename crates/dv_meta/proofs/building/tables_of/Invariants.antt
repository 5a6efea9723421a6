use Rattle.std.proofs.Common.{◌≡◌, map, take}
use Rattle.dv_meta.specs.Accepted.{table_of}
use Rattle.dv_meta.proofs.building.tables_of.Given as goal

abbrev pub invariant-loop-table : goal.invariant-loop-table
invariant-loop-table l = l.tables ≡ map (table_of l.draft) (take l.table-index l.table-items)
