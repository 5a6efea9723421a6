-- The directory: the organisation chart, security roles, and who has them.
use Rattle.std.specs.Prelude.{Bool, ◌==◌, ◌||◌, List, Option, Some, None, if◌then◌else◌, is_some, map}
use Rattle.dv_value.specs.declared.id.Id.{Id}
use Rattle.dv_schema.specs.declared.definition.Definition.{Definition}
use Rattle.dv_schema.specs.Definitions.{tables_of}
use Rattle.dv_units.specs.Chart.{Chart, at, put, has, is_unit, is_user, without_pair}
use Rattle.dv_roles.specs.declared.role.SecurityRole.{SecurityRole}
use Rattle.dv_roles.specs.declared.principal.Principal.{Principal}
use Rattle.dv_roles.specs.declared.principal.Principal.TheVariants.{User, OwnerTeam, AccessTeam}
use Rattle.dv_roles.specs.Gifts as list

-- the chart; for each table whether users own its rows; roles, the System Administrator left out; and who has which
-- roles, as pairs of a user or a team and a role
pub record State : Type 0 where
  pub chart : Chart
  pub owned : List Bool
  pub roles : List (Id × SecurityRole)
  pub gifts : List (Id × Id)

-- the id of the System Administrator role
abbrev pub administrator : Id
administrator = record { 0 = 0 }

-- whether users own the rows of each table of a definition
abbrev pub owned_of : Definition → List Bool
owned_of definition = map (λ table. table.user_owned) (tables_of definition)

-- whether there is a role of an id
abbrev pub is_role : State → Id → Bool
is_role d role = (role.0 == 0) || is_some (at d.roles role)

-- whether a user has the System Administrator role
abbrev pub is_admin : State → Id → Bool
is_admin d user = has d.gifts (user, administrator)

-- whom an id names: a user, an owner team (a default team is one), or an access team
unfoldable pub principal_of : Chart → Id → Option Principal
principal_of chart id = if is_user chart id then Some User else of_team (at chart.teams id)
  where
    of_team : Option Rattle.dv_units.specs.declared.seats.Team.Team → Option Principal
    of_team (Some team) = if team.access then Some AccessTeam else Some OwnerTeam
    of_team None = if is_unit chart id then Some OwnerTeam else None

-- the directory with another chart
abbrev pub with_chart : State → Chart → State
with_chart d chart = record { chart = chart; owned = d.owned; roles = d.roles; gifts = d.gifts }

-- the directory with a role of an id, where there was one or not
abbrev pub with_role : State → Id → SecurityRole → State
with_role d id role = record { chart = d.chart; owned = d.owned; roles = put d.roles id role; gifts = d.gifts }

abbrev pub with_gifts : State → List (Id × Id) → State
with_gifts d gifts = record { chart = d.chart; owned = d.owned; roles = d.roles; gifts = gifts }

-- a role for a user or a team; one that it has already changes nothing
abbrev pub with_gift : State → Id → Id → State
with_gift d role to = with_gifts d (list.with_gift d.gifts to role)

-- a role of a user or a team no longer; one that it doesn't have changes nothing
abbrev pub without_gift : State → Id → Id → State
without_gift d role from = with_gifts d (without_pair d.gifts (from, role))

-- a user without any role
abbrev pub without_roles : State → Id → State
without_roles d user = with_gifts d (list.without_gifts_of d.gifts user)
