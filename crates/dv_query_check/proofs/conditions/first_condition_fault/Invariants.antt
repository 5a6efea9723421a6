use Rattle.std.proofs.Common.{◌≡◌, map, drop}
use Rattle.dv_schema.specs.First.{first_from}
use Rattle.dv_query_check.specs.ConditionFaults.{filter_fault, first_condition_fault}
use Rattle.dv_query_check.specs.Placed.{link_at, filter_at}
use Rattle.dv_query_check.proofs.conditions.first_condition_fault.Given as goal

abbrev pub invariant-loop-filter : goal.invariant-loop-filter
invariant-loop-filter l = first_condition_fault (map link_at l.links) (map filter_at l.filters) ≡ first_from (λ i p. filter_fault (map link_at l.links) (filter_at p)) l.filter-index (drop l.filter-index l.filters)
