-- A printed refusal has no float in it.
use Rattle.std.proofs.Common.{◌≡◌, false, refl}
use Rattle.serde_json.specs.Written.{has_float, members_have_float}
use Rattle.dv_value.proofs.Floats.{either_of, integer-float, put-float}
use Rattle.dv_refusal.specs.Refusals.{details_of, refusal_members, refusal_data}
use Rattle.dv_refusal.specs.declared.refusal.Refusal.{Refusal}
use Rattle.dv_refusal.specs.declared.refusal.Refusal.TheVariants.{StepFailed}

details-float : (refusal : Refusal) → members_have_float (details_of refusal) ≡ false
unfolding details_of
details-float (StepFailed code step text) = either_of _ _ (integer-float code) refl
details-float _ = refl

pub refusal_members-float : (refusal : Refusal) → members_have_float (refusal_members refusal) ≡ false
unfolding refusal_members
refusal_members-float refusal = put-float _ _ (details_of refusal) refl (details-float refusal)

pub refusal_data-float : (refusal : Refusal) → has_float (refusal_data refusal) ≡ false
refusal_data-float refusal = refusal_members-float refusal
