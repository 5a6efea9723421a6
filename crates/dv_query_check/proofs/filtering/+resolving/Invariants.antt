use Rattle.std.proofs.Common.{◌≡◌, drop, map}
use Rattle.dv_query_check.specs.Each.{each_of}
use Rattle.dv_query_check.specs.Placed.{link_at, source_at}
use Rattle.dv_query_check.specs.Resolved.{resolved_filter}
use Rattle.dv_query_check.proofs.EachLaws.{behind}
use Rattle.dv_query_check.proofs.filtering.+resolving.Given as goal

abbrev pub invariant-resolve_filters-loop-filter : goal.invariant-resolve_filters-loop-filter
invariant-resolve_filters-loop-filter l = let said = resolved_filter (source_at l.own) (map link_at l.links) in each_of said l.filters ≡ behind l.resolved (each_of said (drop l.filter-index l.filters))
