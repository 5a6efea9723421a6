use Rattle.std.proofs.Common.{◌∙◌, ap, refl, [], ◌∷◌, codes, unwrap_or, option_map}
use Rattle.serde_json.specs.Data.{null}
use Rattle.serde_json.specs.View.{view}
use Rattle.dv_form.specs.Members.{text_of, natural_of, natural_below, id_of_json, raw_values_of}
use Rattle.dv_schema.proofs.Left.{all_left, one_less}
use Rattle.dv_form.specs.Members.{names_of}
use Rattle.dv_schema.specs.Reading.{registration_of, message_in}
use Rattle.dv_schema.proofs.reading.DraftRegistrationFromJson.from_json.Goals as goal

pub returns : goal.returns
unfolding registration_of
returns c =
    let d = view c.args.json in
    let l0 = all_left _ d c.members_of-members.ensures.each in
    let l1 = one_less _ _ d (codes "step") [] l0 c.in_ok-take_at.ensures.others in
    let l2 = one_less _ _ d (codes "message") (codes "step" ∷ []) l1 c.in_ok-take_at-2.ensures.others in
    let l3 = one_less _ _ d (codes "table") (codes "message" ∷ codes "step" ∷ []) l2 c.in_ok-take_at-3.ensures.others in
    let l4 = one_less _ _ d (codes "stage") (codes "table" ∷ codes "message" ∷ codes "step" ∷ []) l3 c.in_ok-take_at-4.ensures.others in
    let l5 = one_less _ _ d (codes "rank") (codes "stage" ∷ codes "table" ∷ codes "message" ∷ codes "step" ∷ []) l4 c.in_ok-take_at-5.ensures.others in
    let l6 = one_less _ _ d (codes "columns") (codes "rank" ∷ codes "stage" ∷ codes "table" ∷ codes "message" ∷ codes "step" ∷ []) l5 c.in_ok-take_given.ensures.others in
    let l7 = one_less _ _ d (codes "as") (codes "columns" ∷ codes "rank" ∷ codes "stage" ∷ codes "table" ∷ codes "message" ∷ codes "step" ∷ []) l6 c.in_ok-take_given-2.ensures.others in
    let l8 = one_less _ _ d (codes "pre") (codes "as" ∷ codes "columns" ∷ codes "rank" ∷ codes "stage" ∷ codes "table" ∷ codes "message" ∷ codes "step" ∷ []) l7 c.in_ok-take_at-6.ensures.others in
    let l9 = one_less _ _ d (codes "post") (codes "pre" ∷ codes "as" ∷ codes "columns" ∷ codes "rank" ∷ codes "stage" ∷ codes "table" ∷ codes "message" ∷ codes "step" ∷ []) l8 c.in_ok-take_at-7.ensures.others in
    rw (
      c.in_ok-take_at.ensures.value ∙ ap (λ o. natural_of (unwrap_or o null)) (l0 (codes "step") refl),
      c.in_ok-take_at-2.ensures.value ∙ ap (λ o. message_in (unwrap_or o null)) (l1 (codes "message") refl),
      c.in_ok-take_at-3.ensures.value ∙ ap (λ o. text_of (unwrap_or o null)) (l2 (codes "table") refl),
      c.in_ok-take_at-4.ensures.value ∙ ap (λ o. natural_below 256 (unwrap_or o null)) (l3 (codes "stage") refl),
      c.in_ok-take_at-5.ensures.value ∙ ap (λ o. natural_below 4294967296 (unwrap_or o null)) (l4 (codes "rank") refl),
      c.in_ok-take_given.ensures.value ∙ ap (λ o. option_map names_of o) (l5 (codes "columns") refl),
      c.in_ok-take_given-2.ensures.value ∙ ap (λ o. option_map id_of_json o) (l6 (codes "as") refl),
      c.in_ok-take_at-6.ensures.value ∙ ap (λ o. names_of (unwrap_or o null)) (l7 (codes "pre") refl),
      c.in_ok-take_at-7.ensures.value ∙ ap (λ o. names_of (unwrap_or o null)) (l8 (codes "post") refl),
      c.in_ok-take_at-8.ensures.value ∙ ap (λ o. raw_values_of (unwrap_or o null)) (l9 (codes "config") refl),
    ) refl
