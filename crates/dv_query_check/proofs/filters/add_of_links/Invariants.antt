use Rattle.std.proofs.Common.{◌≡◌, ◌++◌, map, drop}
use Rattle.std.specs.List.{flat_map}
use Rattle.dv_query_check.specs.Filters.{filters_of_link}
use Rattle.dv_query_check.specs.Placed.{link_at, filter_at}
use Rattle.dv_query_check.proofs.filters.add_of_links.Given as goal

abbrev pub invariant-loop-link : goal.invariant-loop-link
invariant-loop-link l =
    map filter_at l.placed.items ++ flat_map filters_of_link (map link_at (drop l.link-index l.links))
    ≡ map filter_at l.fn.placed.items ++ flat_map filters_of_link (map link_at l.links)
