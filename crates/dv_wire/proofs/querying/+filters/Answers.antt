use Rattle.std.proofs.Common.{◌∙◌, ◌≤◌, refl, sym, ap, map, codes, unwrap_or, arith, [], ◌∷◌}
use Rattle.std.specs.Str.{bytes_eq}
use Rattle.serde_json.specs.Data.{null, depth, members_depth}
use Rattle.serde_json.specs.Find.{as_str}
use Rattle.serde_json.specs.View.{view, members_view}
use Rattle.dv_form.proofs.Reading.{all_left, one_less}
use Rattle.dv_wire.specs.Queries.{condition_of, filter_of}
use Rattle.dv_wire.proofs.DeepLaws.{list_below, members_below, first_below, next_is}
use Rattle.dv_wire.proofs.Lists.{list_left}
use Rattle.dv_wire.proofs.QueryLaws.{filter_made}
use Rattle.dv_wire.proofs.querying.+filters.Goals as goal

pub filter_of-filters_in-requires : goal.filter_of-filters_in-requires
filter_of-filters_in-requires t c =
    let d = view c.args.json in
    let below : members_depth (members_view c.members_of-members.result.entries) ≤ depth d = rw c.members_of-members.ensures.members (members_below d) in
    (omega (arith, c.decreases, below), tt)

pub filter_of-returns : goal.filter_of-returns
filter_of-returns t c =
    let d = view c.args.json in
    let l0 = all_left _ d c.members_of-members.ensures.members in
    let l1 = one_less _ _ d (codes "filters") [] l0 c.in_ok-filters.ensures.rest in
    filter_made d _ _ _ c.says_word-any.ensures
    (c.in_ok-conditions_of.ensures ∙ ap (map condition_of) (c.take_items.ensures.value ∙ list_left _ d (codes "filters" ∷ []) (codes "conditions") l1 refl))
    (c.in_ok-filters.ensures.value ∙ ap (map filter_of) (list_left _ d [] (codes "filters") l0 refl))

pub filters_in-filters_of-requires : goal.filters_in-filters_of-requires
filters_in-filters_of-requires t c = (omega (arith, c.decreases, list_below (codes "filters") (members_view c.args.members.now.entries) (map view c.in-Some.items.items) (sym c.in-Some.ensures.value)), tt)

pub filters_of-filter_of-requires : goal.filters_of-filter_of-requires
filters_of-filter_of-requires t c =
    let below = first_below _ _ c.in-Some.item _ (next_is c.loop-item.item-iterator c.next.new.self c.next.result c.in-Some.item c.in-Some.is c.next.ensures.steps) c.loop-item.invariant.1 in
    (omega (arith, c.decreases, below), tt)
