use Rattle.std.proofs.Common.{◌≡◌, map, drop}
use Rattle.dv_query_check.specs.Filters.{has_more_conditions}
use Rattle.dv_query_check.specs.Placed.{filter_at}
use Rattle.dv_query_check.proofs.filters.has_more_conditions.Given as goal

abbrev pub invariant-loop-filter : goal.invariant-loop-filter
invariant-loop-filter l = has_more_conditions (map filter_at l.filters) l.most ≡ has_more_conditions (map filter_at (drop l.filter-index l.filters)) l.left
