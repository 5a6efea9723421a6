use Rattle.std.proofs.Common.{◌∙◌, ap, refl, [], ◌∷◌, codes, unwrap_or, option_map}
use Rattle.serde_json.specs.Data.{null}
use Rattle.serde_json.specs.View.{view}
use Rattle.dv_form.specs.Members.{text_of}
use Rattle.dv_schema.proofs.Left.{all_left, one_less}
use Rattle.dv_schema.specs.Reading.{relationship_of, cascade_in}
use Rattle.dv_schema.specs.declared.relationship.Cascade.TheVariants.{RemoveLink}
use Rattle.dv_schema.proofs.reading.DraftRelationshipFromJson.from_json.Goals as goal

pub returns : goal.returns
unfolding relationship_of
returns c =
    let d = view c.args.json in
    let l0 = all_left _ d c.members_of-members.ensures.each in
    let l1 = one_less _ _ d (codes "delete") [] l0 c.in_ok-delete.ensures.others in
    let l2 = one_less _ _ d (codes "name") (codes "delete" ∷ []) l1 c.in_ok-take_at.ensures.others in
    let l3 = one_less _ _ d (codes "parent") (codes "name" ∷ codes "delete" ∷ []) l2 c.in_ok-take_at-2.ensures.others in
    let l4 = one_less _ _ d (codes "child") (codes "parent" ∷ codes "name" ∷ codes "delete" ∷ []) l3 c.in_ok-take_at-3.ensures.others in
    let l5 = one_less _ _ d (codes "column") (codes "child" ∷ codes "parent" ∷ codes "name" ∷ codes "delete" ∷ []) l4 c.in_ok-take_at-4.ensures.others in
    let l6 = one_less _ _ d (codes "assign") (codes "column" ∷ codes "child" ∷ codes "parent" ∷ codes "name" ∷ codes "delete" ∷ []) l5 c.in_ok-take_at-5.ensures.others in
    let l7 = one_less _ _ d (codes "share") (codes "assign" ∷ codes "column" ∷ codes "child" ∷ codes "parent" ∷ codes "name" ∷ codes "delete" ∷ []) l6 c.in_ok-take_at-6.ensures.others in
    let l8 = one_less _ _ d (codes "unshare") (codes "share" ∷ codes "assign" ∷ codes "column" ∷ codes "child" ∷ codes "parent" ∷ codes "name" ∷ codes "delete" ∷ []) l7 c.in_ok-take_at-7.ensures.others in
    rw (
      c.unwrap_or.ensures ∙ ap (λ o. unwrap_or o RemoveLink) (c.in_ok-delete.ensures.value ∙ ap (option_map cascade_in) (l0 (codes "delete") refl)),
      c.in_ok-take_at.ensures.value ∙ ap (λ o. text_of (unwrap_or o null)) (l1 (codes "name") refl),
      c.in_ok-take_at-2.ensures.value ∙ ap (λ o. text_of (unwrap_or o null)) (l2 (codes "parent") refl),
      c.in_ok-take_at-3.ensures.value ∙ ap (λ o. text_of (unwrap_or o null)) (l3 (codes "child") refl),
      c.in_ok-take_at-4.ensures.value ∙ ap (λ o. text_of (unwrap_or o null)) (l4 (codes "column") refl),
      c.in_ok-take_at-5.ensures.value ∙ ap (λ o. cascade_in (unwrap_or o null)) (l5 (codes "assign") refl),
      c.in_ok-take_at-6.ensures.value ∙ ap (λ o. cascade_in (unwrap_or o null)) (l6 (codes "share") refl),
      c.in_ok-take_at-7.ensures.value ∙ ap (λ o. cascade_in (unwrap_or o null)) (l7 (codes "unshare") refl),
      c.in_ok-take_at-8.ensures.value ∙ ap (λ o. cascade_in (unwrap_or o null)) (l8 (codes "reparent") refl),
    ) refl
