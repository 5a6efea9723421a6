-- The messages that change the organisation chart: each is refused, by the first of its tests that fails, or gives the
-- changed chart.
use Rattle.std.specs.Prelude.{Bool, true, not, ◌||◌, Result, Ok, Err, if◌then◌else◌, nat_le, length, codes, Option, Some, None}
use Rattle.dv_value.specs.declared.id.Id.{Id}
use Rattle.dv_refusal.specs.declared.what.What.TheVariants as what
use Rattle.dv_refusal.specs.declared.refusal.Refusal.{Refusal}
use Rattle.dv_refusal.specs.declared.refusal.Refusal.TheVariants.{DirectoryIdTaken, UnknownUnit, UnknownUser, UnknownTeam, UnitRule, TeamRule, Limit}
use Rattle.dv_units.specs.declared.seats.User.{User}
use Rattle.dv_units.specs.Chart.{Chart, at, has, is_unit, is_user, is_team, is_taken, with_unit, with_user, with_team, with_member, without_member}
use Rattle.dv_units.specs.Tree.{is_root, is_within}
use Rattle.dv_units.specs.Rules.{most_units, most_users, most_teams, most_members}

-- a new unit under a parent
unfoldable pub adding_unit : Chart → Id → Id → Result Chart Refusal
adding_unit chart id parent =
    if is_taken chart id then Err DirectoryIdTaken
    else if not (is_unit chart parent) then Err UnknownUnit
    else if nat_le most_units (length chart.units) then Err (Limit what.Unit)
    else Ok (with_unit chart id parent)

-- a unit under another parent: not the root, and not a parent within the unit
unfoldable pub moving_unit : Chart → Id → Id → Result Chart Refusal
moving_unit chart unit parent =
    if not (is_unit chart unit) then Err UnknownUnit
    else if not (is_unit chart parent) then Err UnknownUnit
    else if is_root chart unit then Err (UnitRule (codes "root"))
    else if is_within chart parent unit then Err (UnitRule (codes "cycle"))
    else Ok (with_unit chart unit parent)

-- a new user in a unit, who is enabled
unfoldable pub adding_user : Chart → Id → Id → Result Chart Refusal
adding_user chart id unit =
    if is_taken chart id then Err DirectoryIdTaken
    else if not (is_unit chart unit) then Err UnknownUnit
    else if nat_le most_users (length chart.users) then Err (Limit what.User)
    else Ok (with_user chart id (record { unit = unit; enabled = true }))

-- a user in another unit
unfoldable pub moving_user : Chart → Id → Id → Result Chart Refusal
moving_user chart id unit = of (at chart.users id)
  where
    of : Option User → Result Chart Refusal
    of None = Err UnknownUser
    of (Some user) = if not (is_unit chart unit) then Err UnknownUnit else Ok (with_user chart id (record { unit = unit; enabled = user.enabled }))

-- whether a user may send requests
unfoldable pub enabling_user : Chart → Id → Bool → Result Chart Refusal
enabling_user chart id enabled = of (at chart.users id)
  where
    of : Option User → Result Chart Refusal
    of None = Err UnknownUser
    of (Some user) = Ok (with_user chart id (record { unit = user.unit; enabled = enabled }))

-- a new team of a unit
unfoldable pub adding_team : Chart → Id → Id → Bool → Result Chart Refusal
adding_team chart id unit access =
    if is_taken chart id then Err DirectoryIdTaken
    else if not (is_unit chart unit) then Err UnknownUnit
    else if nat_le most_teams (length chart.teams) then Err (Limit what.Team)
    else Ok (with_team chart id (record { unit = unit; access = access }))

-- why the members of a team can't be changed by a user: no such team, no such user, or a default team
abbrev pub membership_refused : Chart → Id → Id → Option Refusal
membership_refused chart team user =
    if not (is_unit chart team || is_team chart team) then Some UnknownTeam
    else if not (is_user chart user) then Some UnknownUser
    else if is_unit chart team then Some (TeamRule (codes "default"))
    else None

-- a user as a member of a team; one that is a member already changes nothing
unfoldable pub adding_member : Chart → Id → Id → Result Chart Refusal
adding_member chart team user = where_none (membership_refused chart team user)
  where
    where_none : Option Refusal → Result Chart Refusal
    where_none (Some refusal) = Err refusal
    where_none None =
        if has chart.members (team, user) then Ok chart
        else if nat_le most_members (length chart.members) then Err (Limit what.Member)
        else Ok (with_member chart team user)

-- a user as a member no longer; one that is no member changes nothing
unfoldable pub removing_member : Chart → Id → Id → Result Chart Refusal
removing_member chart team user = where_none (membership_refused chart team user)
  where
    where_none : Option Refusal → Result Chart Refusal
    where_none (Some refusal) = Err refusal
    where_none None = Ok (without_member chart team user)
