use Rattle.std.proofs.Common.{◌≡◌, map, drop}
use Rattle.dv_schema.specs.First.{first_from}
use Rattle.dv_query_check.specs.LinkFaults.{fault_of_link, first_link_fault}
use Rattle.dv_query_check.specs.Placed.{link_at}
use Rattle.dv_query_check.proofs.links.first_link_fault.Given as goal

abbrev pub invariant-loop-i : goal.invariant-loop-i
invariant-loop-i l = first_link_fault (map link_at l.links) ≡ first_from (λ i p. fault_of_link (map link_at l.links) i (link_at p)) l.i (drop l.i l.links)
