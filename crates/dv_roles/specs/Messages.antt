-- The messages that change roles and who has them: each is refused, by the first of its tests that fails, or gives the
-- changed directory.
use Rattle.std.specs.Prelude.{ℕ, Bool, false, not, ◌==◌, ◌||◌, ◌&&◌, List, [], ◌∷◌, Result, Ok, Err, if◌then◌else◌, nat_le, length, codes, Option, Some, None}
use Rattle.std.specs.List.{list_any}
use Rattle.std.specs.Option.{option_map_or}
use Rattle.dv_value.specs.declared.id.Id.{Id}
use Rattle.dv_refusal.specs.declared.what.What.TheVariants as what
use Rattle.dv_refusal.specs.declared.refusal.Refusal.{Refusal}
use Rattle.dv_refusal.specs.declared.refusal.Refusal.TheVariants.{DirectoryIdTaken, BadPrincipal, UnknownRole, TeamRule, RoleRule, LastAdmin, Limit}
use Rattle.dv_schema.specs.declared.definition.Definition.{Definition}
use Rattle.dv_schema.specs.declared.opening.Entry.{Entry}
use Rattle.dv_schema.specs.declared.opening.Role.{Role}
use Rattle.dv_schema.specs.Definitions.{tables_of}
use Rattle.dv_units.specs.Chart.{Chart, at, root_alone}
use Rattle.dv_units.specs.Messages.{adding_user, moving_user, enabling_user}
use Rattle.dv_units.specs.Membership.{unit_of}
use Rattle.dv_roles.specs.declared.role.SecurityRole.{SecurityRole}
use Rattle.dv_roles.specs.declared.principal.Principal.{Principal}
use Rattle.dv_roles.specs.declared.principal.Principal.TheVariants.{User, OwnerTeam, AccessTeam}
use Rattle.dv_roles.specs.State.{State, administrator, is_role, principal_of, owned_of, with_chart, with_role, with_gift, without_gift, without_roles}
use Rattle.dv_roles.specs.Entries.{entries_fault, spread}

-- how many roles there may be besides the System Administrator
abbrev pub most_roles : ℕ
most_roles = 500

-- one unit, one user in it, and that user the System Administrator
unfoldable pub starting : Definition → Id → Id → Result State Refusal
starting definition root admin = with (adding_user (root_alone root) admin root)
  where
    with : Result Chart Refusal → Result State Refusal
    with (Err refusal) = Err refusal
    with (Ok chart) = Ok (record { chart = chart; owned = owned_of definition; roles = []; gifts = (admin, administrator) ∷ [] })

-- a role with its entries spread out
abbrev pub role_of : Definition → Bool → Bool → List Entry → SecurityRole
role_of definition direct manage entries = record { direct = direct; manage = manage; entries = spread (tables_of definition) entries }

-- a new role
unfoldable pub adding_role : State → Definition → Role → Result State Refusal
adding_role d definition role = if is_role d role.id then Err DirectoryIdTaken else where_none (entries_fault definition role.entries)
  where
    where_none : Option Refusal → Result State Refusal
    where_none (Some refusal) = Err refusal
    where_none None =
        if nat_le most_roles (length d.roles) then Err (Limit what.Role)
        else Ok (with_role d role.id (role_of definition role.direct role.manage role.entries))

-- other privileges for a role; its inheritance stays, and so does who has it
unfoldable pub setting_privileges : State → Definition → Id → Bool → List Entry → Result State Refusal
setting_privileges d definition id manage entries =
    if id.0 == 0 then Err (RoleRule (codes "admin")) else of (at d.roles id)
  where
    where_none : Bool → Option Refusal → Result State Refusal
    where_none direct (Some refusal) = Err refusal
    where_none direct None = Ok (with_role d id (role_of definition direct manage entries))

    of : Option SecurityRole → Result State Refusal
    of None = Err UnknownRole
    of (Some role) = where_none role.direct (entries_fault definition entries)

-- a role for a user or a team: access teams have none, and the System Administrator is for users alone
unfoldable pub giving_role : State → Id → Id → Result State Refusal
giving_role d role to = if not (is_role d role) then Err UnknownRole else for (principal_of d.chart to)
  where
    for : Option Principal → Result State Refusal
    for None = Err BadPrincipal
    for (Some AccessTeam) = Err (TeamRule (codes "access"))
    for (Some OwnerTeam) = if role.0 == 0 then Err (RoleRule (codes "admin")) else Ok (with_gift d role to)
    for (Some User) = Ok (with_gift d role to)

-- whether a user is enabled; no one else is
abbrev pub is_enabled : State → Id → Bool
is_enabled d user = option_map_or (λ found. found.enabled) (at d.chart.users user) false

-- whether an enabled user besides this one has the System Administrator role
abbrev pub has_other_admin : State → Id → Bool
has_other_admin d user = list_any (λ gift. (gift.1.0 == 0) && (not (gift.0.0 == user.0) && is_enabled d gift.0)) d.gifts

-- a role of a user or a team no longer; the last enabled user with the System Administrator role keeps it
unfoldable pub taking_role : State → Id → Id → Result State Refusal
taking_role d role from = if not (is_role d role) then Err UnknownRole else for (principal_of d.chart from)
  where
    for : Option Principal → Result State Refusal
    for None = Err BadPrincipal
    for (Some principal) = if (role.0 == 0) && not (has_other_admin d from) then Err LastAdmin else Ok (without_gift d role from)

-- a user in another unit, without its roles; into its own unit nothing changes
unfoldable pub moving : State → Id → Id → Result State Refusal
moving d user unit = with (moving_user d.chart user unit)
  where
    with : Result Chart Refusal → Result State Refusal
    with (Err refusal) = Err refusal
    with (Ok chart) =
        if option_map_or (λ own. own.0 == unit.0) (unit_of d.chart user) false then Ok d
        else if has_other_admin d user then Ok (without_roles (with_chart d chart) user)
        else Err LastAdmin

-- whether a user may send requests; the last enabled user with the System Administrator role stays enabled
unfoldable pub enabling : State → Id → Bool → Result State Refusal
enabling d user enabled = with (enabling_user d.chart user enabled)
  where
    with : Result Chart Refusal → Result State Refusal
    with (Err refusal) = Err refusal
    with (Ok chart) = if enabled || has_other_admin d user then Ok (with_chart d chart) else Err LastAdmin
