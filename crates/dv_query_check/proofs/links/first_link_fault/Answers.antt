use Rattle.std.proofs.Common.{map, sym, ◌∙◌, arith}
use Rattle.dv_schema.proofs.FirstLaws.{first_from-more, first_from-found, first_from-end}
use Rattle.dv_query_check.specs.LinkFaults.{fault_of_link, first_link_fault}
use Rattle.dv_query_check.specs.Placed.{link_at}
use Rattle.dv_query_check.proofs.FaultLaws.{link_wrong, link_fine}
use Rattle.dv_query_check.proofs.FirstLaws.{first_from-map}
use Rattle.dv_query_check.proofs.links.first_link_fault.Goals as goal

pub loop-i-init : goal.loop-i-init
unfolding first_link_fault
loop-i-init c = first_from-map (fault_of_link (map link_at c.args.links.now)) link_at 0 c.args.links.now

pub returns-in-Some : goal.returns-in-Some
returns-in-Some c =
    let links = c.args.links.now in
    sym (c.loop-i.invariant ∙ first_from-found (λ i p. fault_of_link (map link_at links) i (link_at p)) links c.loop-i.i c.index-links-i.result c.in_ok-told.field-0 (omega arith) c.index-links-i.is
    (link_wrong links c.loop-i.i c.index-links-i.result c.link_fault.result c.in-Some.fault c.in_ok-told.field-0 c.link_fault.ensures c.in-Some.is c.in_ok-told.ensures))

pub loop-i-preserved : goal.loop-i-preserved
loop-i-preserved c =
    let links = c.args.links.now in
    c.loop-i.invariant ∙ first_from-more (λ i p. fault_of_link (map link_at links) i (link_at p)) links c.loop-i.i c.index-links-i.result (omega arith) c.index-links-i.is
    (link_fine links c.loop-i.i c.index-links-i.result c.link_fault.result c.link_fault.ensures c.in_default.is)

pub returns : goal.returns
returns c =
    let links = c.args.links.now in
    sym (c.loop-i.invariant ∙ first_from-end (λ i p. fault_of_link (map link_at links) i (link_at p)) links c.loop-i.i (omega arith))
