-- What an opening directory that is made names is there.
use Rattle.std.proofs.Common.{◌≡◌, ℕ, ◌+◌, Bool, true, false, cond, List, length, Option, Some, None, is_some, refl, slice_get, true≢false}
use Rattle.std.specs.Prelude.{◌||◌, ◌==◌, not}
use Rattle.dv_value.specs.declared.id.Id.{Id}
use Rattle.dv_schema.specs.declared.opening.Opening.{Opening}
use Rattle.dv_schema.specs.declared.opening.OpeningTeam.{OpeningTeam}
use Rattle.dv_schema.specs.declared.opening.OpeningUnit.{OpeningUnit}
use Rattle.dv_schema.specs.declared.opening.OpeningUser.{OpeningUser}
use Rattle.dv_schema.specs.declared.place.Place.{Place}
use Rattle.dv_schema.specs.declared.place.Place.TheVariants as at
use Rattle.dv_opening.specs.Directory.{Directory, Cause, Seat, IdTaken, UnknownUnit, UnknownUser, UnknownRole, AUser, adding_unit, adding_user, adding_team, adding_member, giving_role}
use Rattle.dv_opening.specs.Opening.{made, unit_refused, user_refused, gift_refused, member_refused, team_alone_refused, team_refused, team_seat, overfull, refused_unit, refused_user, refused_team}
use Rattle.dv_meta.specs.Resolved.{IsResolvedUnit, IsResolvedUser, IsResolvedTeam}
use Rattle.dv_meta.proofs.FoundLaws.{option_map-none, or-false, list_any-none, position_at-none, first_from-none}

first-cause : (b : Bool) (x : Cause) (rest : Option Cause) → is_some (cond (not b) (Some x) rest) ≡ false → b ≡ true
first-cause true x rest e = refl
first-cause false x rest e = absurd (true≢false e)

second-cause : (a b : Bool) (x y : Cause) (rest : Option Cause) → is_some (cond a (Some x) (cond (not b) (Some y) rest)) ≡ false → b ≡ true
second-cause true b x y rest e = absurd (true≢false e)
second-cause false b x y rest e = first-cause b y rest e

known-role : (d : Directory) (role : ℕ) (seat : Seat) → is_some (giving_role d role seat) ≡ false → ((role == 0) || d.is_role role) ≡ true
unfolding giving_role
known-role d role seat e = first-cause ((role == 0) || d.is_role role) UnknownRole _ e

known-member : (d : Directory) (access : Bool) (user : ℕ) → is_some (adding_member d (team_seat access) user false) ≡ false → d.is_user user ≡ true
unfolding adding_member
known-member d true user e = first-cause (d.is_user user) UnknownUser _ e
known-member d false user e = first-cause (d.is_user user) UnknownUser _ e

known-roles : (d : Directory) (seat : Seat) (roles : List Id) → gift_refused d seat roles ≡ false → (j : ℕ) (role : Id) → slice_get roles j ≡ Some role → ((role.0 == 0) || d.is_role role.0) ≡ true
unfolding gift_refused
known-roles d seat roles e j role at = known-role d role.0 seat (list_any-none (λ r. is_some (giving_role d r.0 seat)) roles e j role at)

known-members : (d : Directory) (access : Bool) (members : List Id) → member_refused d (team_seat access) members ≡ false → (j : ℕ) (user : Id) → slice_get members j ≡ Some user → d.is_user user.0 ≡ true
unfolding member_refused
known-members d access members e j user at = known-member d access user.0 (list_any-none (λ u. is_some (adding_member d (team_seat access) u.0 false)) members e j user at)

unit-made : (d : Directory) (id parent : ℕ) → is_some (adding_unit d id parent) ≡ false → d.is_unit parent ≡ true
unfolding adding_unit
unit-made d id parent e = second-cause _ (d.is_unit parent) IdTaken UnknownUnit _ e

user-made : (d : Directory) (id unit : ℕ) → is_some (adding_user d id unit) ≡ false → d.is_unit unit ≡ true
unfolding adding_user
user-made d id unit e = second-cause _ (d.is_unit unit) IdTaken UnknownUnit _ e

team-made : (d : Directory) (id unit : ℕ) → is_some (adding_team d id unit) ≡ false → d.is_unit unit ≡ true
unfolding adding_team
team-made d id unit e = second-cause _ (d.is_unit unit) IdTaken UnknownUnit _ e

pub resolved-units : (o : Opening) → refused_unit o ≡ None → (k : ℕ) (unit : OpeningUnit) → slice_get o.units k ≡ Some unit → IsResolvedUnit o k unit
unfolding refused_unit unit_refused
resolved-units o none k unit at =
    unit-made (made o k 0 0 0) unit.id.0 unit.parent.0 (position_at-none (unit_refused o) o.units (option_map-none _ _ none) k unit at)

pub resolved-users : (o : Opening) → refused_user o ≡ None → (k : ℕ) (user : OpeningUser) → slice_get o.users k ≡ Some user → IsResolvedUser o user
unfolding refused_user user_refused
resolved-users o none k user at =
    let parts = or-false _ _ (position_at-none (user_refused o) o.users (option_map-none _ _ none) k user at) in
    record {
      unit = user-made (made o (length o.units) k 0 (length o.roles)) user.id.0 user.unit.0 parts.0;
      roles = known-roles (made o (length o.units) (k + 1) 0 (length o.roles)) AUser user.roles parts.1;
    }

not_at : (b : Bool) (p : Place) → cond b (Some p) None ≡ None → b ≡ false
not_at true p e = absurd (cc)
not_at false p e = refl

team-alone : (o : Opening) (k : ℕ) (team : OpeningTeam) → team_alone_refused o (k, team) ≡ false → IsResolvedTeam o team
unfolding team_alone_refused
team-alone o k team e =
    let first = or-false _ _ e in
    let rest = or-false _ _ first.1 in
    record {
      unit = team-made (made o (length o.units) (length o.users) k (length o.roles)) team.id.0 team.unit.0 first.0;
      members = known-members (made o (length o.units) (length o.users) (k + 1) (length o.roles)) team.access team.members rest.0;
      roles = known-roles (made o (length o.units) (length o.users) (k + 1) (length o.roles)) (team_seat team.access) team.roles rest.1;
    }

pub resolved-teams : (o : Opening) → refused_team o ≡ None → (k : ℕ) (team : OpeningTeam) → slice_get o.teams k ≡ Some team → IsResolvedTeam o team
unfolding refused_team
resolved-teams o none k team there =
    let none_at = first_from-none (λ i t. cond (team_refused o i t) (Some (at.Team i)) None) 0 o.teams none k team there in
    team-alone o (0 + k) team (or-false (team_alone_refused o (0 + k, team)) (overfull o (0 + k)) (not_at (team_refused o (0 + k) team) (at.Team (0 + k)) none_at)).0
