-- A user that may send requests belongs to a unit.
use Rattle.std.proofs.Common.{◌≡◌, ap}
use Rattle.std.proofs.lemmas.Bool.{true≢false}
use Rattle.std.specs.Prelude.{Option, Some, None, is_some}
use Rattle.std.specs.Option.{option_map, option_or}
use Rattle.dv_value.specs.declared.id.Id.{Id}
use Rattle.dv_units.specs.Chart.{at}
use Rattle.dv_units.specs.Membership.{unit_of}
use Rattle.dv_units.specs.declared.seats.User.{User}
use Rattle.dv_roles.specs.State.{State}
use Rattle.dv_pipeline.specs.Requests.{enabled_fault, caller_fault}

found_unit : (found : Option User) (rest : Option Id) → enabled_fault (option_map (λ f. f.enabled) found) ≡ None → option_or (option_map (λ f. f.unit) found) rest ≡ None → ⊥
found_unit None rest enabled none = true≢false (ap is_some enabled)
found_unit (Some f) rest enabled none = true≢false (ap is_some none)

-- a user that may send requests belongs to a unit
pub caller_has_unit : (d : State) (user : Id) → caller_fault d user ≡ None → unit_of d.chart user ≡ None → ⊥
unfolding caller_fault
caller_has_unit d user may none = found_unit (at d.chart.users user) _ may none
