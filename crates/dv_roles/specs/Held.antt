-- What a user holds of an action on a table: pairs of a depth and a seat, from which the depth is measured. The seat is
-- the user itself or one of its owner teams.
use Rattle.std.specs.Prelude.{ℕ, Bool, true, false, ◌==◌, ◌||◌, ◌&&◌, Option, Some, nat_lt, slice_get}
use Rattle.std.specs.List.{list_any}
use Rattle.std.specs.Option.{option_map_or}
use Rattle.dv_value.specs.declared.id.Id.{Id}
use Rattle.dv_schema.specs.declared.opening.Action.{Action}
use Rattle.dv_units.specs.Chart.{Chart, at}
use Rattle.dv_units.specs.Membership.{is_in_team}
use Rattle.dv_roles.specs.declared.role.RoleEntry.{RoleEntry}
use Rattle.dv_roles.specs.declared.role.SecurityRole.{SecurityRole}
use Rattle.dv_roles.specs.declared.principal.Principal.{Principal}
use Rattle.dv_roles.specs.declared.principal.Principal.TheVariants.{User, OwnerTeam}
use Rattle.dv_roles.specs.declared.held.Asked.{Asked}
use Rattle.dv_roles.specs.declared.held.Asked.TheVariants.{Privilege, Management, Own}
use Rattle.dv_roles.specs.Actions.{same_action, has_action}
use Rattle.dv_roles.specs.State.{State, is_admin, principal_of}

-- whether an entry allows an action on a table at a depth
abbrev pub is_entry : Action → ℕ → ℕ → RoleEntry → Bool
is_entry action table depth entry = same_action entry.action action && ((entry.table == table) && (entry.depth == depth))

-- whether a role of an id allows what is asked: an action on a table at a depth; or what it gives through a team to
-- each of its members, which is the directory's management and, where the role is direct, an action on a table at depth
-- 0 as the member's own
unfoldable pub allows : State → Asked → Id → Bool
allows d asked id = option_map_or (of asked) (at d.roles id) false
  where
    of : Asked → SecurityRole → Bool
    of (Privilege action table depth) role = list_any (is_entry action table depth) role.entries
    of Management role = role.manage
    of (Own action table) role = role.direct && list_any (is_entry action table 0) role.entries

-- whether one of the roles of a user or a team does
abbrev pub any_allows : State → Asked → Id → Bool
any_allows d asked principal = list_any (λ gift. (gift.0.0 == principal.0) && allows d asked gift.1) d.gifts

-- the System Administrator has each action of each table at depth 3
unfoldable pub admin_has : State → Action → ℕ → ℕ → Bool
admin_has d action table depth = (depth == 3) && option_map_or (λ owned. has_action owned action) (slice_get d.owned table) false

abbrev pub is_owner_team : Chart → Id → Bool
is_owner_team chart id = is (principal_of chart id)
  where
    is : Option Principal → Bool
    is (Some OwnerTeam) = true
    is _ = false

abbrev pub is_user : Chart → Id → Bool
is_user chart id = is (principal_of chart id)
  where
    is : Option Principal → Bool
    is (Some User) = true
    is _ = false

-- whether an owner team has a role that allows what is asked
unfoldable pub team_allows : State → Asked → Id → Bool
team_allows d asked team = is_owner_team d.chart team && any_allows d asked team

-- whether one of a user's teams does
unfoldable pub has_from_team : State → Asked → Id → Bool
has_from_team d asked user = list_any (λ gift. is_in_team d.chart user gift.0 && team_allows d asked gift.0) d.gifts

-- what a user holds by its own roles or as System Administrator
abbrev pub holds_itself : State → Action → ℕ → ℕ → Id → Bool
holds_itself d action table depth user = any_allows d (Privilege action table depth) user || (is_admin d user && admin_has d action table depth)

-- what a user holds as itself: the same, and at depth 0 what direct roles of its teams pass on
unfoldable pub user_holds : State → Action → ℕ → ℕ → Id → Bool
user_holds d action table depth user = is_user d.chart user
    && (holds_itself d action table depth user || ((depth == 0) && has_from_team d (Own action table) user))

-- what a team holds
unfoldable pub team_holds : State → Action → ℕ → ℕ → Id → Bool
team_holds d action table depth team = team_allows d (Privilege action table depth) team

-- whether a user holds an action on a table at a depth from a seat
abbrev pub holds : State → Id → Action → ℕ → ℕ → Id → Bool
holds d user action table depth seat = nat_lt depth 4
    && (((seat.0 == user.0) && user_holds d action table depth user)
    || (is_in_team d.chart user seat && team_holds d action table depth seat))

-- whether a user may manage the directory: as System Administrator, by its own roles, or by those of its owner teams
unfoldable pub manages : State → Id → Bool
manages d user = is_user d.chart user
    && (is_admin d user || (any_allows d Management user || has_from_team d Management user))
