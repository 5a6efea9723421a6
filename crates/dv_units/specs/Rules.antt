-- The rules that every organisation chart keeps.
use Rattle.std.specs.Prelude.{◌≡◌, ℕ, ◌≤◌, false, IsTrue, Some, length, ◌≢◌}
use Rattle.dv_value.specs.declared.id.Id.{Id}
use Rattle.dv_units.specs.declared.seats.User.{User}
use Rattle.dv_units.specs.declared.seats.Team.{Team}
use Rattle.dv_units.specs.Chart.{Chart, at, has, is_unit, is_user, is_team}
use Rattle.dv_units.specs.Tree.{IsTree}

-- how many units, the root among them, users, further teams and members there may be
abbrev pub most_units : ℕ
most_units = 1000

abbrev pub most_users : ℕ
most_users = 10000

abbrev pub most_teams : ℕ
most_teams = 5000

abbrev pub most_members : ℕ
most_members = 100000

pub record IsChart (chart : Chart) : Type 0 where
  -- the units form one tree
  pub tree : IsTree chart.units
  -- nothing has the nil id
  pub named : (id : Id) → IsTrue (is_unit chart id) → id.0 ≢ 0
  pub user_named : (id : Id) → IsTrue (is_user chart id) → id.0 ≢ 0
  pub team_named : (id : Id) → IsTrue (is_team chart id) → id.0 ≢ 0
  -- no two of units, users and further teams have one id
  pub user_apart : (id : Id) → IsTrue (is_user chart id) → is_unit chart id ≡ false
  pub team_apart : (id : Id) → IsTrue (is_team chart id) → is_unit chart id ≡ false
  pub users_apart : (id : Id) → IsTrue (is_team chart id) → is_user chart id ≡ false
  -- the unit of a user or a team is there
  pub user_unit : (id : Id) (user : User) → at chart.users id ≡ Some user → IsTrue (is_unit chart user.unit)
  pub team_unit : (id : Id) (team : Team) → at chart.teams id ≡ Some team → IsTrue (is_unit chart team.unit)
  -- a member is a user, and its team is a further team
  pub member_team : (team user : Id) → IsTrue (has chart.members (team, user)) → IsTrue (is_team chart team)
  pub member_user : (team user : Id) → IsTrue (has chart.members (team, user)) → IsTrue (is_user chart user)
  -- the limits are kept
  pub few_units : length chart.units ≤ most_units
  pub few_users : length chart.users ≤ most_users
  pub few_teams : length chart.teams ≤ most_teams
  pub few_members : length chart.members ≤ most_members
