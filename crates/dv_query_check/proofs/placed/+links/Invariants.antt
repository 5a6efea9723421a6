use Rattle.std.proofs.Common.{◌≡◌, ◌+◌, ◌++◌, length, map, drop, option_map}
use Rattle.dv_query_check.specs.Links.{links_in_turn, links_under}
use Rattle.dv_query_check.specs.Placed.{link_at}
use Rattle.dv_query_check.proofs.placed.+links.Given as goal

abbrev pub invariant-add_links-loop-i : goal.invariant-add_links-loop-i
invariant-add_links-loop-i l =
    let under = links_under l.def (option_map (λ t. t.now) l.above.table) l.above.is_hidden l.above.number in
    map link_at l.placed.items ++ links_in_turn l.place l.i (length (map link_at l.placed.items) + 1) (map under (drop l.i l.links))
    ≡ map link_at l.fn.placed.items ++ links_in_turn l.place 0 (length (map link_at l.fn.placed.items) + 1) (map under l.links)
