use Rattle.std.proofs.Common.{◌≡◌, ◌++◌, map, drop, option_map}
use Rattle.dv_query_check.specs.Filters.{in_turn, filters_in}
use Rattle.dv_query_check.specs.Placed.{filter_at}
use Rattle.dv_query_check.proofs.filters.+filters.Given as goal

abbrev pub invariant-add_filters-loop-i : goal.invariant-add_filters-loop-i
invariant-add_filters-loop-i l =
    let under = filters_in (option_map (λ t. t.now) l.scope.table) l.scope.names_links in
    map filter_at l.placed.items ++ in_turn l.place l.i (map under (drop l.i l.filters))
    ≡ map filter_at l.fn.placed.items ++ in_turn l.place 0 (map under l.filters)
