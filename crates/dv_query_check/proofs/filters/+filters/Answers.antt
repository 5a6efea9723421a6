use Rattle.std.proofs.Common.{◌++◌, map, option_map, sym, ap, ◌∙◌, arith}
use Rattle.std.proofs.lemmas.Result.{on_ok_weaker}
use Rattle.dv_query_check.specs.Filters.{filters_in}
use Rattle.dv_query_check.specs.Placed.{filter_at}
use Rattle.dv_query_check.proofs.FilterLaws.{filter_added}
use Rattle.dv_query_check.proofs.TurnLaws.{turn_more, turn_end}
use Rattle.dv_query_check.proofs.filters.+filters.Goals as goal

pub add_filter-returns : goal.add_filter-returns
add_filter-returns t c = on_ok_weaker c.add_filters.result
    (λ h. filter_added (record { place = c.args.place; table = c.args.scope.table; names_links = c.args.scope.names_links; conditions = c.as_slice.result }) c.args.filter.now
    c.in_ok-inside.inside c.as_slice-2.result.now (map filter_at c.args.placed.now.items) (map filter_at c.keep.new.placed.items) (map filter_at c.add_filters.new.placed.items)
    c.in_ok-inside.ensures c.as_slice.ensures c.as_slice-2.ensures c.in_ok-keep.ensures h)
    c.add_filters.ensures

pub add_filters-loop-i-preserved : goal.add_filters-loop-i-preserved
add_filters-loop-i-preserved t c =
    let under = filters_in (option_map (λ t. t.now) c.args.scope.table) c.args.scope.names_links in
    let x = c.index-filters-i.result in
    sym (turn_more under c.args.place.now c.args.filters.now c.loop-i.i x (map filter_at c.loop-i.placed.items) (map filter_at c.add_filter.new.placed.items) (omega arith) c.index-filters-i.is
    (c.in_ok-add_filter.ensures ∙ ap (λ p. map filter_at c.loop-i.placed.items ++ under x p) c.in_ok-item.ensures))
    ∙ c.loop-i.invariant

pub add_filters-returns : goal.add_filters-returns
add_filters-returns t c =
    let under = filters_in (option_map (λ t. t.now) c.args.scope.table) c.args.scope.names_links in
    sym (turn_end under c.args.place.now c.args.filters.now c.loop-i.i (map filter_at c.loop-i.placed.items) (omega arith)) ∙ c.loop-i.invariant
