-- The directory that a definition begins with: the root unit and in it the administrator, and then what the messages of
-- the directory make in the order of the text: units, roles, users each with its roles, and teams each with its
-- members and then its roles.
use Rattle.std.specs.Prelude.{List, [], ◌∷◌, Result, Ok, Err, if◌then◌else◌, ◌==◌}
use Rattle.dv_value.specs.declared.id.Id.{Id}
use Rattle.dv_refusal.specs.declared.refusal.Refusal.{Refusal}
use Rattle.dv_refusal.specs.declared.refusal.Refusal.TheVariants.{DirectoryIdTaken}
use Rattle.dv_schema.specs.declared.definition.Definition.{Definition}
use Rattle.dv_schema.specs.declared.opening.OpeningTeam.{OpeningTeam}
use Rattle.dv_schema.specs.declared.opening.OpeningUnit.{OpeningUnit}
use Rattle.dv_schema.specs.declared.opening.OpeningUser.{OpeningUser}
use Rattle.dv_schema.specs.declared.opening.Role.{Role}
use Rattle.dv_schema.specs.Definitions.{opening_of}
use Rattle.dv_units.specs.Chart.{Chart}
use Rattle.dv_units.specs.Messages.{adding_unit, adding_user, adding_team, adding_member}
use Rattle.dv_roles.specs.State.{State, with_chart}
use Rattle.dv_roles.specs.Messages.{starting, adding_role, giving_role}

-- a step after another, unless that was refused
abbrev pub and_then : Result State Refusal → (State → Result State Refusal) → Result State Refusal
and_then (Ok d) next = next d
and_then (Err refusal) next = Err refusal

-- a step for each item of a list in turn, up to the first that is refused
unfoldable pub each : {A : Type 0} → (State → A → Result State Refusal) → State → List A → Result State Refusal
each step d [] = Ok d
each step d (x ∷ xs) = and_then (step d x) (λ e. each step e xs)

-- a change of the chart alone
abbrev pub on_chart : State → Result Chart Refusal → Result State Refusal
on_chart d (Ok chart) = Ok (with_chart d chart)
on_chart d (Err refusal) = Err refusal

unfoldable pub making_unit : State → OpeningUnit → Result State Refusal
making_unit d unit = on_chart d (adding_unit d.chart unit.id unit.parent)

unfoldable pub making_member : Id → State → Id → Result State Refusal
making_member team d user = on_chart d (adding_member d.chart team user)

abbrev pub giving_to : Id → State → Id → Result State Refusal
giving_to principal d role = giving_role d role principal

-- a user, and then its roles
unfoldable pub making_user : State → OpeningUser → Result State Refusal
making_user d user = and_then (on_chart d (adding_user d.chart user.id user.unit)) (λ e. each (giving_to user.id) e user.roles)

-- a team, then its members, and then its roles
unfoldable pub making_team : State → OpeningTeam → Result State Refusal
making_team d team = and_then (on_chart d (adding_team d.chart team.id team.unit team.access))
    (λ e. and_then (each (making_member team.id) e team.members) (λ f. each (giving_to team.id) f team.roles))

abbrev pub making_role : Definition → State → Role → Result State Refusal
making_role definition d role = adding_role d definition role

-- the root unit, which like any other hasn't the nil id, and the administrator
unfoldable pub opened : Definition → Result State Refusal
opened definition = let o = opening_of definition in if o.root.0 == 0 then Err DirectoryIdTaken else starting definition o.root o.admin

-- the whole directory
unfoldable pub beginning : Definition → Result State Refusal
beginning definition = let o = opening_of definition in
    and_then (opened definition) (λ d. and_then (each making_unit d o.units) (λ e. and_then (each (making_role definition) e o.roles)
    (λ f. and_then (each making_user f o.users) (λ g. each making_team g o.teams))))
