use Rattle.std.proofs.Common.{◌++◌, true, map, option_map, ap, ◌∙◌}
use Rattle.std.specs.List.{flat_map}
use Rattle.dv_query_check.specs.Filters.{filters_of, filters_of_link, filters_given}
use Rattle.dv_query_check.specs.Placed.{link_at, filter_at}
use Rattle.dv_query_check.proofs.filters.placed_filters.Goals as goal

pub returns : goal.returns
unfolding filters_of
returns c =
    let given = filters_given (option_map (λ t. t.now) c.args.base) true c.args.query.now.filter in
    let rest = flat_map filters_of_link (map link_at c.args.links.now) in
    c.in_ok-add_of_links.ensures
    ∙ ap (λ xs. xs ++ rest) (c.in_ok-add_given.ensures ∙ ap (λ xs. map filter_at xs ++ given c.in_ok-of.field-0) c.new-placed.ensures.items ∙ ap given c.in_ok-of.ensures)
