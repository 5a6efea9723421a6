use Rattle.std.proofs.Common.{◌∙◌, refl, ap, map, codes, option_map, unwrap_or, [], ◌∷◌}
use Rattle.serde_json.specs.Data.{null}
use Rattle.serde_json.specs.View.{view}
use Rattle.dv_form.specs.Members.{text_of}
use Rattle.dv_form.proofs.Reading.{all_left, one_less}
use Rattle.dv_form.specs.Members.{names_of}
use Rattle.dv_wire.specs.Queries.{filter_of, filter_at, link_of, order_of, query_of}
use Rattle.dv_wire.proofs.Lists.{list_left}
use Rattle.dv_wire.proofs.QueryLaws.{part_same}
use Rattle.dv_wire.proofs.querying.query_of.Goals as goal

pub returns : goal.returns
unfolding query_of filter_at
returns c =
    let d = view c.args.json in
    let l0 = all_left _ d c.members_of-members.ensures.members in
    let l1 = one_less _ _ d (codes "table") [] l0 c.in_ok-take_at.ensures.rest in
    let l2 = one_less _ _ d (codes "columns") (codes "table" ∷ []) l1 c.in_ok-take_given.ensures.rest in
    let l3 = one_less _ _ d (codes "filter") (codes "columns" ∷ codes "table" ∷ []) l2 c.in_ok-filter_at.ensures.rest in
    let l4 = one_less _ _ d (codes "links") (codes "filter" ∷ codes "columns" ∷ codes "table" ∷ []) l3 c.take_items.ensures.rest in
    let l5 = one_less _ _ d (codes "orders") (codes "links" ∷ codes "filter" ∷ codes "columns" ∷ codes "table" ∷ []) l4 c.take_items-2.ensures.rest in
    rw (
      c.in_ok-take_at.ensures.value ∙ ap (λ o. text_of (unwrap_or o null)) (l0 (codes "table") refl),
      c.in_ok-take_given.ensures.value ∙ ap (option_map names_of) (l1 (codes "columns") refl),
      c.in_ok-filter_at.ensures.value ∙ ap (option_map filter_of) (l2 (codes "filter") refl),
      c.in_ok-links_of.ensures ∙ ap (map link_of) (c.take_items.ensures.value ∙ list_left _ d (codes "filter" ∷ codes "columns" ∷ codes "table" ∷ []) (codes "links") l3 refl),
      c.in_ok-orders_of.ensures ∙ ap (map order_of) (c.take_items-2.ensures.value ∙ list_left _ d (codes "links" ∷ codes "filter" ∷ codes "columns" ∷ codes "table" ∷ []) (codes "orders") l4 refl),
      c.in_ok-part_of.ensures ∙ part_same _ _ _ _ (l5 (codes "top") refl) (l5 (codes "page") refl),
    ) refl
