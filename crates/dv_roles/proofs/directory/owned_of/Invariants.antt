use Rattle.std.proofs.Common.{◌≡◌, map, take}
use Rattle.dv_roles.proofs.directory.owned_of.Given as goal

abbrev pub invariant-loop-table : goal.invariant-loop-table
invariant-loop-table l = l.owned ≡ map (λ table. table.user_owned) (take l.table-index l.tables)
