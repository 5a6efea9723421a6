-- The units that users, teams and units belong to.
use Rattle.std.proofs.Common.{◌≡◌, refl, false}
use Rattle.std.proofs.lemmas.Bool.{true≢false}
use Rattle.std.specs.Prelude.{Option, Some, None, is_some}
use Rattle.std.specs.Option.{option_map, option_or}
use Rattle.dv_value.specs.declared.id.Id.{Id}
use Rattle.dv_units.specs.Chart.{Chart, at, is_user, is_unit}
use Rattle.dv_units.specs.Membership.{unit_of}
use Rattle.dv_units.specs.declared.seats.User.{User}
use Rattle.dv_units.specs.declared.seats.Team.{Team}

by : (id : Id) (user : Option User) (team : Option Team) (unit : Option Id) → is_some user ≡ false → is_some team ≡ false
    → is_some (option_or (option_map (λ u. u.unit) user) (option_or (option_map (λ t. t.unit) team) (option_map (λ parent. id) unit))) ≡ is_some unit
by id None None None u t = refl
by id None None (Some parent) u t = refl
by id None (Some team) unit u t = absurd (true≢false t)
by id (Some user) team unit u t = absurd (true≢false u)

pub unit_of_is : (chart : Chart) (id : Id) → is_user chart id ≡ false → is_some (at chart.teams id) ≡ false → is_some (unit_of chart id) ≡ is_unit chart id
unit_of_is chart id u t = by id (at chart.users id) (at chart.teams id) (at chart.units id) u t
