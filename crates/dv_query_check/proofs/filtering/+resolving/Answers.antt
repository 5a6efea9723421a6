use Rattle.std.proofs.Common.{Some, None, refl, sym, ap, ◌∙◌, arith, map}
use Rattle.dv_query_check.specs.Each.{each_of}
use Rattle.dv_query_check.specs.Placed.{link_at, source_at}
use Rattle.dv_query.specs.declared.filter.Filter.TheViews.{out-Filter}
use Rattle.dv_query_check.specs.Resolved.{filter_made, resolved_filter, resolved_filters}
use Rattle.dv_query_check.proofs.ResolvedLaws.{filter_by}
use Rattle.dv_query_check.proofs.EachLaws.{behind, each-first, each-more, each-none, each-end}
use Rattle.dv_query_check.proofs.filtering.+resolving.Goals as goal

pub resolve_filters-loop-filter-init : goal.resolve_filters-loop-filter-init
resolve_filters-loop-filter-init t c =
    let all = each_of (resolved_filter (source_at c.args.own) (map link_at c.args.links.now)) c.args.filters.now in
    each-first all ∙ ap (λ made. behind made all) (sym c.in_ok-resolved.ensures)

pub resolve_filters-loop-filter-preserved : goal.resolve_filters-loop-filter-preserved
resolve_filters-loop-filter-preserved t c =
    c.loop-filter.invariant ∙ each-more (resolved_filter (source_at c.args.own) (map link_at c.args.links.now)) c.args.filters.now c.loop-filter.filter-index c.filter-item.result c.in-Some.filter c.loop-filter.resolved c.push.new.self
    (omega arith) c.filter-item.is (sym c.in_ok-filter.ensures ∙ c.in-Some.is) c.in_ok-push-in-Some.ensures.ok

pub resolve_filters-returns-in-None : goal.resolve_filters-returns-in-None
unfolding resolved_filters
resolve_filters-returns-in-None t c =
    sym (c.loop-filter.invariant ∙ each-none (resolved_filter (source_at c.args.own) (map link_at c.args.links.now)) c.args.filters.now c.loop-filter.filter-index c.filter-item.result c.loop-filter.resolved (omega arith) c.filter-item.is (sym c.in_ok-filter.ensures ∙ c.in-None.is))

pub resolve_filters-returns : goal.resolve_filters-returns
unfolding resolved_filters
resolve_filters-returns t c = sym (c.loop-filter.invariant ∙ each-end (resolved_filter (source_at c.args.own) (map link_at c.args.links.now)) c.args.filters.now c.loop-filter.filter-index c.loop-filter.resolved (omega arith))

pub resolve_filter-returns-in_default : goal.resolve_filter-returns-in_default
unfolding filter_made
resolve_filter-returns-in_default t c =
    let f = c.args.filter.now in
    filter_by (source_at c.args.own) (map link_at c.args.links.now) f c.as_slice-conditions.result.now (out-Filter f).filters None _ c.as_slice-conditions.ensures refl (sym c.in_default.is ∙ c.in_ok-conditions.ensures) refl

pub resolve_filter-returns-in_default-2 : goal.resolve_filter-returns-in_default-2
unfolding filter_made
resolve_filter-returns-in_default-2 t c =
    let f = c.args.filter.now in
    filter_by (source_at c.args.own) (map link_at c.args.links.now) f c.as_slice-conditions.result.now c.as_slice.result.now (Some c.in-Some.conditions) None
    c.as_slice-conditions.ensures c.as_slice.ensures (sym c.in-Some.is ∙ c.in_ok-conditions.ensures) (sym c.in_default-2.is ∙ c.in_ok-filters.ensures)

pub resolve_filter-returns : goal.resolve_filter-returns
unfolding filter_made
resolve_filter-returns t c =
    let f = c.args.filter.now in
    filter_by (source_at c.args.own) (map link_at c.args.links.now) f c.as_slice-conditions.result.now c.as_slice.result.now (Some c.in-Some.conditions) (Some c.in-Some-2.filters)
    c.as_slice-conditions.ensures c.as_slice.ensures (sym c.in-Some.is ∙ c.in_ok-conditions.ensures) (sym c.in-Some-2.is ∙ c.in_ok-filters.ensures)
