-- The messages that change the directory: who may send them, and what each makes of it.
use Rattle.std.specs.Prelude.{Bool, true, false, ◌||◌, Option, Some, None, Result, Err, codes, if◌then◌else◌}
use Rattle.dv_value.specs.declared.id.Id.{Id}
use Rattle.dv_refusal.specs.declared.refusal.Refusal.{Refusal}
use Rattle.dv_refusal.specs.declared.refusal.Refusal.TheVariants.{Denied, NotBuilt}
use Rattle.dv_schema.specs.declared.definition.Definition.{Definition}
use Rattle.dv_units.specs.Chart.{Chart}
use Rattle.dv_units.specs.Messages.{adding_unit, moving_unit, adding_user, adding_team, adding_member, removing_member}
use Rattle.dv_roles.specs.Beginning.{on_chart}
use Rattle.dv_roles.specs.Held.{manages}
use Rattle.dv_roles.specs.Messages.{moving, enabling, adding_role, setting_privileges, giving_role, taking_role}
use Rattle.dv_roles.specs.State.{State}
use Rattle.dv_pipeline.specs.Requests.{caller_fault}
use Rattle.dv_request.specs.declared.request.Request.{Request}
use Rattle.dv_request.specs.declared.request.Request.TheVariants.{AddUnit, MoveUnit, AddUser, MoveUser, SetEnabled, AddTeam, AddMember, RemoveMember, AddRole, SetPrivileges, GiveRole, TakeRole}

-- whether a message changes the organisation chart alone
unfoldable pub is_of_chart : Request → Bool
is_of_chart (AddUnit id parent) = true
is_of_chart (MoveUnit unit parent) = true
is_of_chart (AddUser id unit) = true
is_of_chart (AddTeam id unit access) = true
is_of_chart (AddMember team user) = true
is_of_chart (RemoveMember team user) = true
is_of_chart other = false

-- whether a message changes roles, or what roles rest on
unfoldable pub is_of_roles : Request → Bool
is_of_roles (MoveUser user unit) = true
is_of_roles (SetEnabled user enabled) = true
is_of_roles (AddRole role) = true
is_of_roles (SetPrivileges role manage privileges) = true
is_of_roles (GiveRole role to) = true
is_of_roles (TakeRole role to) = true
is_of_roles other = false

-- whether a message changes the directory
abbrev pub is_of_directory : Request → Bool
is_of_directory request = is_of_chart request || is_of_roles request

-- what a message makes of the chart; no other message is asked for
unfoldable pub charted : Chart → Request → Result Chart Refusal
charted chart (AddUnit id parent) = adding_unit chart id parent
charted chart (MoveUnit unit parent) = moving_unit chart unit parent
charted chart (AddUser id unit) = adding_user chart id unit
charted chart (AddTeam id unit access) = adding_team chart id unit access
charted chart (AddMember team user) = adding_member chart team user
charted chart (RemoveMember team user) = removing_member chart team user
charted chart other = Err NotBuilt

-- what a message on roles makes of the directory; no other message is asked for
unfoldable pub empowered : Definition → State → Request → Result State Refusal
empowered definition d (MoveUser user unit) = moving d user unit
empowered definition d (SetEnabled user enabled) = enabling d user enabled
empowered definition d (AddRole role) = adding_role d definition role
empowered definition d (SetPrivileges role manage privileges) = setting_privileges d definition role manage privileges
empowered definition d (GiveRole role to) = giving_role d role to
empowered definition d (TakeRole role to) = taking_role d role to
empowered definition d other = Err NotBuilt

-- what a message makes of the directory
unfoldable pub changed : Definition → State → Request → Result State Refusal
changed definition d request = if is_of_chart request then on_chart d (charted d.chart request) else empowered definition d request

-- the refusal of a user who may not manage the directory
abbrev pub not_managing : Refusal
not_managing = Denied (codes "prvManageSecurity") (codes "NoPrivilege")

-- why a user may not manage the directory: no user has the id, or the user is disabled, or lacks the privilege
unfoldable pub management_fault : State → Id → Option Refusal
management_fault d user = of (caller_fault d user)
  where
    of : Option Refusal → Option Refusal
    of (Some refusal) = Some refusal
    of None = if manages d user then None else Some not_managing

-- what a message of a user makes of the directory
unfoldable pub managed : Definition → State → Id → Request → Result State Refusal
managed definition d user request = of (management_fault d user)
  where
    of : Option Refusal → Result State Refusal
    of (Some refusal) = Err refusal
    of None = changed definition d request
