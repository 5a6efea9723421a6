-- What the directory messages refuse, each in the order of its tests. The nil id is 0, which is also the id of the
-- System Administrator role.
use Rattle.std.specs.Prelude.{ℕ, Bool, true, false, not, ◌||◌, ◌==◌, List, Option, Some, None, if◌then◌else◌, nat_le}
use Rattle.std.specs.Option.{option_or}
use Rattle.dv_schema.specs.declared.opening.Action.{Action}
use Rattle.dv_schema.specs.declared.opening.Action.TheVariants.{Assign, Share}
use Rattle.dv_schema.specs.declared.opening.Entry.{Entry}
use Rattle.dv_opening.specs.declared.limits.TheConstants.{UNITS, USERS, TEAMS, ROLES}
use Rattle.dv_schema.specs.First.{first}
use Rattle.dv_schema.specs.Names.{Name}

-- why a message is refused
pub data Cause : Type 0 where
  IdTaken : Cause
  UnknownUnit : Cause
  UnknownUser : Cause
  UnknownTeam : Cause
  UnknownRole : Cause
  UnknownTable : Cause
  NoPrincipal : Cause
  IsDefault : Cause
  IsAccess : Cause
  IsAdmin : Cause
  BadEntry : Cause
  Full : Cause

-- who an id names
pub data Seat : Type 0 where
  Nobody : Seat
  AUser : Seat
  DefaultTeam : Seat
  OwnerTeam : Seat
  AccessTeam : Seat

-- what a directory tells: which ids are those of units, users, further teams and roles, and how many there are
pub record Directory : Type 0 where
  pub is_unit : ℕ → Bool
  pub is_user : ℕ → Bool
  pub is_team : ℕ → Bool
  pub is_role : ℕ → Bool
  pub units : ℕ
  pub users : ℕ
  pub teams : ℕ
  pub roles : ℕ

-- an id that a unit, a user or a team can't take
abbrev pub is_seat : Directory → ℕ → Bool
is_seat d id = (id == 0) || (d.is_unit id || (d.is_user id || d.is_team id))

-- a new unit under a parent; there are at most 1,000 units
unfoldable pub adding_unit : Directory → ℕ → ℕ → Option Cause
adding_unit d id parent = if is_seat d id then Some IdTaken else (if not (d.is_unit parent) then Some UnknownUnit else (if nat_le UNITS d.units then Some Full else None))

-- a new user in a unit; there are at most 10,000 users
unfoldable pub adding_user : Directory → ℕ → ℕ → Option Cause
adding_user d id unit = if is_seat d id then Some IdTaken else (if not (d.is_unit unit) then Some UnknownUnit else (if nat_le USERS d.users then Some Full else None))

-- a new team of a unit; there are at most 5,000 further teams
unfoldable pub adding_team : Directory → ℕ → ℕ → Option Cause
adding_team d id unit = if is_seat d id then Some IdTaken else (if not (d.is_unit unit) then Some UnknownUnit else (if nat_le TEAMS d.teams then Some Full else None))

-- a user as a member of a team; whether there is no room for one more is told beside it
unfoldable pub adding_member : Directory → Seat → ℕ → Bool → Option Cause
adding_member d Nobody user full = Some UnknownTeam
adding_member d AUser user full = Some UnknownTeam
adding_member d DefaultTeam user full = if not (d.is_user user) then Some UnknownUser else Some IsDefault
adding_member d OwnerTeam user full = if not (d.is_user user) then Some UnknownUser else (if full then Some Full else None)
adding_member d AccessTeam user full = if not (d.is_user user) then Some UnknownUser else (if full then Some Full else None)

-- whether an action is one that no row of the organisation's knows
abbrev pub is_owners' : Option Action → Bool
is_owners' (Some Assign) = true
is_owners' (Some Share) = true
is_owners' _ = false

-- a privilege on a table of a name, by whether users own its rows, where it is there; one on all tables is never refused
unfoldable pub adding_entry : (Name → Option Bool) → Entry → Option Cause
adding_entry owned entry = on_table entry.table
  where
    on_owned : Option Bool → Option Cause
    on_owned None = Some UnknownTable
    on_owned (Some true) = None
    on_owned (Some false) = if not (entry.depth == 3) || is_owners' entry.action then Some BadEntry else None

    on_table : Option Name → Option Cause
    on_table None = None
    on_table (Some name) = on_owned (owned name)

-- a new role with its entries; there are at most 500 roles besides the System Administrator
unfoldable pub adding_role : Directory → (Name → Option Bool) → ℕ → List Entry → Option Cause
adding_role d owned id entries = if (id == 0) || d.is_role id then Some IdTaken else option_or (first (λ i entry. adding_entry owned entry) entries) (if nat_le ROLES d.roles then Some Full else None)

-- a role for a user or a team
unfoldable pub giving_role : Directory → ℕ → Seat → Option Cause
giving_role d role seat = if not ((role == 0) || d.is_role role) then Some UnknownRole else to seat
  where
    to : Seat → Option Cause
    to Nobody = Some NoPrincipal
    to AUser = None
    to DefaultTeam = if role == 0 then Some IsAdmin else None
    to OwnerTeam = if role == 0 then Some IsAdmin else None
    to AccessTeam = Some IsAccess
