use Rattle.std.proofs.Common.{◌≡◌, drop, map}
use Rattle.dv_query_check.specs.Each.{each_of}
use Rattle.dv_query_check.specs.Placed.{link_at, source_at}
use Rattle.dv_query_check.specs.Resolved.{resolved_condition}
use Rattle.dv_query_check.proofs.EachLaws.{behind}
use Rattle.dv_query_check.proofs.filtering.resolve_conditions.Given as goal

abbrev pub invariant-loop-condition : goal.invariant-loop-condition
invariant-loop-condition l = let said = resolved_condition (source_at l.own) (map link_at l.links) in each_of said l.conditions ≡ behind l.resolved (each_of said (drop l.condition-index l.conditions))
