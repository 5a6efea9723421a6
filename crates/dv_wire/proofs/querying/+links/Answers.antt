use Rattle.std.proofs.Common.{◌∙◌, ◌≤◌, refl, sym, ap, map, codes, option_map, option_and_then, unwrap_or, arith, [], ◌∷◌}
use Rattle.serde_json.specs.Data.{null, depth, members_depth}
use Rattle.serde_json.specs.Find.{as_str}
use Rattle.serde_json.specs.View.{view, members_view}
use Rattle.dv_form.specs.Members.{text_of}
use Rattle.dv_form.proofs.Reading.{all_left, one_less}
use Rattle.dv_form.specs.Members.{names_of}
use Rattle.dv_query.specs.Words.{join_of}
use Rattle.dv_query.specs.declared.link.Join.TheVariants.{Inner}
use Rattle.dv_wire.specs.Queries.{filter_of, filter_at, join_at, link_of}
use Rattle.dv_wire.proofs.DeepLaws.{list_below, members_below, first_below, next_is}
use Rattle.dv_wire.proofs.Lists.{list_left}
use Rattle.dv_wire.proofs.QueryLaws.{link_made}
use Rattle.dv_wire.proofs.querying.+links.Goals as goal

pub link_of-links_under-requires : goal.link_of-links_under-requires
link_of-links_under-requires t c =
    let d = view c.args.json in
    let below : members_depth (members_view c.members_of-members.result.entries) ≤ depth d = rw c.members_of-members.ensures.members (members_below d) in
    (omega (arith, c.decreases, below), tt)

pub link_of-returns : goal.link_of-returns
unfolding filter_at
link_of-returns t c =
    let d = view c.args.json in
    let l0 = all_left _ d c.members_of-members.ensures.members in
    let l1 = one_less _ _ d (codes "links") [] l0 c.in_ok-links.ensures.rest in
    let l2 = one_less _ _ d (codes "table") (codes "links" ∷ []) l1 c.in_ok-take_at.ensures.rest in
    let l3 = one_less _ _ d (codes "from") (codes "table" ∷ codes "links" ∷ []) l2 c.in_ok-take_at-2.ensures.rest in
    let l4 = one_less _ _ d (codes "to") (codes "from" ∷ codes "table" ∷ codes "links" ∷ []) l3 c.in_ok-take_at-3.ensures.rest in
    let l5 = one_less _ _ d (codes "alias") (codes "to" ∷ codes "from" ∷ codes "table" ∷ codes "links" ∷ []) l4 c.in_ok-take_given.ensures.rest in
    let l6 = one_less _ _ d (codes "columns") (codes "alias" ∷ codes "to" ∷ codes "from" ∷ codes "table" ∷ codes "links" ∷ []) l5 c.in_ok-take_at-4.ensures.rest in
    link_made d _ _ _ _ _ _ _ _ (c.in_ok-take_at.ensures.value ∙ ap (λ o. text_of (unwrap_or o null)) (l1 (codes "table") refl))
    (c.in_ok-take_at-2.ensures.value ∙ ap (λ o. text_of (unwrap_or o null)) (l2 (codes "from") refl))
    (c.in_ok-take_at-3.ensures.value ∙ ap (λ o. text_of (unwrap_or o null)) (l3 (codes "to") refl))
    c.join_at-join.ensures
    (c.in_ok-take_given.ensures.value ∙ ap (option_map text_of) (l4 (codes "alias") refl))
    (c.in_ok-take_at-4.ensures.value ∙ ap (λ o. names_of (unwrap_or o null)) (l5 (codes "columns") refl))
    (c.in_ok-filter_at.ensures.value ∙ ap (option_map filter_of) (l6 (codes "filter") refl))
    (c.in_ok-links.ensures.value ∙ ap (map link_of) (list_left _ d [] (codes "links") l0 refl))

pub links_under-links_of-requires : goal.links_under-links_of-requires
links_under-links_of-requires t c = (omega (arith, c.decreases, list_below (codes "links") (members_view c.args.members.now.entries) (map view c.in-Some.items.items) (sym c.in-Some.ensures.value)), tt)

pub links_of-link_of-requires : goal.links_of-link_of-requires
links_of-link_of-requires t c =
    let below = first_below _ _ c.in-Some.item _ (next_is c.loop-item.item-iterator c.next.new.self c.next.result c.in-Some.item c.in-Some.is c.next.ensures.steps) c.loop-item.invariant.1 in
    (omega (arith, c.decreases, below), tt)
