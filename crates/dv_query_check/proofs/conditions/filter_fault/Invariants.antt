use Rattle.std.proofs.Common.{◌≡◌, map, drop}
use Rattle.dv_schema.specs.First.{first_from}
use Rattle.dv_query_check.specs.ConditionFaults.{fault_of_condition, filter_fault}
use Rattle.dv_query_check.specs.Placed.{link_at, filter_at}
use Rattle.dv_query_check.proofs.conditions.filter_fault.Given as goal

abbrev pub invariant-loop-i : goal.invariant-loop-i
invariant-loop-i l = filter_fault (map link_at l.links) (filter_at l.filter) ≡ first_from (fault_of_condition (map link_at l.links) (filter_at l.filter)) l.i (drop l.i l.filter.conditions.now)
