use Rattle.std.proofs.Common.{◌≡◌, ◌++◌, flat_map, take}
use Rattle.dv_meta.specs.Accepted.{columns_of}
use Rattle.dv_meta.proofs.building.table_columns.add_each.Given as goal

abbrev pub invariant-loop-column : goal.invariant-loop-column
invariant-loop-column l = l.into ≡ l.initial.into ++ flat_map (columns_of l.draft l.table) (take l.column-index l.listed)
