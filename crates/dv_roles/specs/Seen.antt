-- A directory as the rules of an opening directory see it, and when those rules accept the opening directory of a
-- definition.
use Rattle.std.specs.Prelude.{◌≡◌, ◌≢◌, Bool, true, false, not, ◌&&◌, Result, Ok, Err, Option, Some, None, if◌then◌else◌, is_some, length, nat_le}
use Rattle.dv_value.specs.declared.id.Id.{Id}
use Rattle.dv_refusal.specs.declared.refusal.Refusal.{Refusal}
use Rattle.dv_schema.specs.declared.definition.Definition.{Definition}
use Rattle.dv_schema.specs.Definitions.{opening_of}
use Rattle.dv_opening.specs.Directory as opening
use Rattle.dv_opening.specs.Opening.{bad_directory}
use Rattle.dv_units.specs.declared.seats.Team.{Team}
use Rattle.dv_units.specs.Chart.{Chart, at, has, is_unit, is_user, is_team}
use Rattle.dv_units.specs.Rules.{most_members}
use Rattle.dv_roles.specs.State.{State}
use Rattle.dv_roles.specs.Entries.{owned_at}

-- whether a message is refused
abbrev pub is_refused : {A : Type 0} → Result A Refusal → Bool
is_refused (Ok x) = false
is_refused (Err refusal) = true

-- who an id names
unfoldable pub seat_of : Chart → Id → opening.Seat
seat_of chart id = if is_user chart id then opening.AUser else of_team (at chart.teams id)
  where
    of_team : Option Team → opening.Seat
    of_team (Some team) = if team.access then opening.AccessTeam else opening.OwnerTeam
    of_team None = if is_unit chart id then opening.DefaultTeam else opening.Nobody

-- whether there is no room for a user as one more member of a team
abbrev pub is_full_for : Chart → Id → Id → Bool
is_full_for chart team user = not (has chart.members (team, user)) && nat_le most_members (length chart.members)

-- the ids and the counts of a directory are those that the rules are told
pub record IsSeen (d : State) (seen : opening.Directory) : Type 0 where
  pub unit : (id : Id) → seen.is_unit id.0 ≡ is_unit d.chart id
  pub user : (id : Id) → seen.is_user id.0 ≡ is_user d.chart id
  pub team : (id : Id) → seen.is_team id.0 ≡ is_team d.chart id
  pub role : (id : Id) → seen.is_role id.0 ≡ is_some (at d.roles id)
  pub units : seen.units ≡ length d.chart.units
  pub users : seen.users ≡ length d.chart.users
  pub teams : seen.teams ≡ length d.chart.teams
  pub roles : seen.roles ≡ length d.roles

-- the root unit and the administrator have two ids that aren't nil, and no item is refused
pub record OpensWell (definition : Definition) : Type 0 where
  pub root : (opening_of definition).root.0 ≢ 0
  pub admin : (opening_of definition).admin.0 ≢ 0
  pub apart : (opening_of definition).admin.0 ≢ (opening_of definition).root.0
  pub items : bad_directory (owned_at definition) (opening_of definition) ≡ None
