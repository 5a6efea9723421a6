-- The opening directory: the root unit, the first user in it with the System Administrator role, and then the units,
-- the roles, the users (each with its roles) and the teams (each with its members, then its roles), as the messages
-- of the directory make them in the order of the text.
use Rattle.std.specs.Prelude.{ℕ, ◌+◌, Bool, true, false, not, ◌||◌, ◌==◌, List, map, take, filter, length, sum_by, Option, Some, None, if◌then◌else◌, is_some, nat_lt, option_map, position}
use Rattle.std.specs.List.{list_any, enumerate_from}
use Rattle.std.specs.Option.{option_or, option_map_or}
use Rattle.dv_value.specs.declared.id.Id.{Id}
use Rattle.dv_schema.specs.declared.opening.Opening.{Opening}
use Rattle.dv_schema.specs.declared.opening.OpeningTeam.{OpeningTeam}
use Rattle.dv_schema.specs.declared.opening.OpeningUnit.{OpeningUnit}
use Rattle.dv_schema.specs.declared.opening.OpeningUser.{OpeningUser}
use Rattle.dv_schema.specs.declared.opening.Role.{Role}
use Rattle.dv_schema.specs.declared.place.Place.{Place}
use Rattle.dv_schema.specs.declared.place.Place.TheVariants as at
use Rattle.dv_opening.specs.declared.limits.TheConstants.{MEMBERS}
use Rattle.dv_opening.specs.Directory.{Directory, Seat, AUser, OwnerTeam, AccessTeam, adding_unit, adding_user, adding_team, adding_member, adding_role, giving_role}
use Rattle.dv_schema.specs.First.{first}
use Rattle.dv_schema.specs.Names.{Name}

-- the first place of an id in a list
unfoldable pub id_place : List ℕ → ℕ → Option ℕ
id_place ids id = first (λ i x. if id == x then Some i else None) ids

-- whether an id is in a list before a place
abbrev pub id_before : List ℕ → ℕ → ℕ → Bool
id_before ids i id = option_map_or (λ k. nat_lt k i) (id_place ids id) false

abbrev pub unit_ids : List OpeningUnit → List ℕ
unit_ids units = map (λ unit. unit.id.0) units

abbrev pub user_ids : List OpeningUser → List ℕ
user_ids users = map (λ user. user.id.0) users

abbrev pub team_ids : List OpeningTeam → List ℕ
team_ids teams = map (λ team. team.id.0) teams

abbrev pub role_ids : List Role → List ℕ
role_ids roles = map (λ role. role.id.0) roles

-- the directory once the first so many units, users, teams and roles of the text are made
abbrev pub made : Opening → ℕ → ℕ → ℕ → ℕ → Directory
made o units users teams roles = record {
  is_unit = λ id. (id == o.root.0) || id_before (unit_ids o.units) units id;
  is_user = λ id. (id == o.admin.0) || id_before (user_ids o.users) users id;
  is_team = λ id. id_before (team_ids o.teams) teams id;
  is_role = λ id. id_before (role_ids o.roles) roles id;
  units = units + 1;
  users = users + 1;
  teams = teams;
  roles = roles;
}

unfoldable pub unit_refused : Opening → ℕ × OpeningUnit → Bool
unit_refused o at_k = is_some (adding_unit (made o at_k.0 0 0 0) at_k.1.id.0 at_k.1.parent.0)

-- `owned` says whether users own the rows of a table of a name, where it is there
unfoldable pub role_refused : (Name → Option Bool) → Opening → ℕ × Role → Bool
role_refused owned o at_k = is_some (adding_role (made o (length o.units) 0 0 at_k.0) owned at_k.1.id.0 at_k.1.entries)

-- whether one of the roles can't be given
unfoldable pub gift_refused : Directory → Seat → List Id → Bool
gift_refused d seat roles = list_any (λ role. is_some (giving_role d role.0 seat)) roles

unfoldable pub user_refused : Opening → ℕ × OpeningUser → Bool
user_refused o at_k = is_some (adding_user (made o (length o.units) at_k.0 0 (length o.roles)) at_k.1.id.0 at_k.1.unit.0)
    || gift_refused (made o (length o.units) (at_k.0 + 1) 0 (length o.roles)) AUser at_k.1.roles

-- a team is an owner team or an access team
abbrev pub team_seat : Bool → Seat
team_seat true = AccessTeam
team_seat false = OwnerTeam

-- whether one of the users can't be a member
unfoldable pub member_refused : Directory → Seat → List Id → Bool
member_refused d seat members = list_any (λ user. is_some (adding_member d seat user.0 false)) members

-- how many different users a team has: those that aren't listed before
unfoldable pub member_count : OpeningTeam → ℕ
member_count team = length (filter (λ at_j. not (id_before (map (λ user. user.0) team.members) at_j.0 at_j.1.0)) (enumerate_from 0 team.members))

-- whether the team with those before it has more than 100,000 members
unfoldable pub overfull : Opening → ℕ → Bool
overfull o k = nat_lt MEMBERS (sum_by member_count (take (k + 1) o.teams))

-- whether the team, one of its members or one of its roles is refused
unfoldable pub team_alone_refused : Opening → ℕ × OpeningTeam → Bool
team_alone_refused o at_k = is_some (adding_team (made o (length o.units) (length o.users) at_k.0 (length o.roles)) at_k.1.id.0 at_k.1.unit.0)
    || (member_refused (made o (length o.units) (length o.users) (at_k.0 + 1) (length o.roles)) (team_seat at_k.1.access) at_k.1.members
    || gift_refused (made o (length o.units) (length o.users) (at_k.0 + 1) (length o.roles)) (team_seat at_k.1.access) at_k.1.roles)

abbrev pub team_refused : Opening → ℕ → OpeningTeam → Bool
team_refused o k team = team_alone_refused o (k, team) || overfull o k

unfoldable pub refused_unit : Opening → Option Place
refused_unit o = option_map at.BusinessUnit (position (unit_refused o) (enumerate_from 0 o.units))

unfoldable pub refused_role : (Name → Option Bool) → Opening → Option Place
refused_role owned o = option_map at.Role (position (role_refused owned o) (enumerate_from 0 o.roles))

unfoldable pub refused_user : Opening → Option Place
refused_user o = option_map at.User (position (user_refused o) (enumerate_from 0 o.users))

unfoldable pub refused_team : Opening → Option Place
refused_team o = first (λ k team. if team_refused o k team then Some (at.Team k) else None) o.teams

-- the first item of the opening directory that is refused
unfoldable pub bad_directory : (Name → Option Bool) → Opening → Option Place
bad_directory owned o = option_or (refused_unit o) (option_or (refused_role owned o) (option_or (refused_user o) (refused_team o)))
