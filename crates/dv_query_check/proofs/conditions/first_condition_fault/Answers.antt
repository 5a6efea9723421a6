use Rattle.std.proofs.Common.{map, sym, ◌∙◌, arith}
use Rattle.dv_schema.proofs.FirstLaws.{first_from-more, first_from-found, first_from-end}
use Rattle.dv_query_check.specs.ConditionFaults.{filter_fault, first_condition_fault}
use Rattle.dv_query_check.specs.Placed.{link_at, filter_at}
use Rattle.dv_query_check.proofs.FirstLaws.{first_from-map}
use Rattle.dv_query_check.proofs.conditions.first_condition_fault.Goals as goal

pub loop-filter-init : goal.loop-filter-init
unfolding first_condition_fault
loop-filter-init c = first_from-map (λ i f. filter_fault (map link_at c.args.links.now) f) filter_at 0 c.args.filters.now

pub returns-in-Some : goal.returns-in-Some
returns-in-Some c =
    let links = map link_at c.args.links.now in
    sym (c.loop-filter.invariant ∙ first_from-found (λ i p. filter_fault links (filter_at p)) c.args.filters.now c.loop-filter.filter-index c.filter-item.result c.in-Some.fault (omega arith) c.filter-item.is
    (sym c.in_ok-fault.ensures ∙ c.in-Some.is))

pub loop-filter-preserved : goal.loop-filter-preserved
loop-filter-preserved c =
    let links = map link_at c.args.links.now in
    c.loop-filter.invariant ∙ first_from-more (λ i p. filter_fault links (filter_at p)) c.args.filters.now c.loop-filter.filter-index c.filter-item.result (omega arith) c.filter-item.is
    (sym c.in_ok-fault.ensures ∙ c.in_default.is)

pub returns : goal.returns
returns c =
    let links = map link_at c.args.links.now in
    sym (c.loop-filter.invariant ∙ first_from-end (λ i p. filter_fault links (filter_at p)) c.args.filters.now c.loop-filter.filter-index (omega arith))
