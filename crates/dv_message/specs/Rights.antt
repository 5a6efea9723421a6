-- Whether the user may do an action on the row that a message names, and who can be an owner or be given rights.
use Rattle.std.specs.Prelude.{◌≡◌, ◌||◌, Bool, not, is_some, Option, Some, None}
use Rattle.std.specs.Option.{option_map_or}
use Rattle.dv_value.specs.declared.id.Id.{Id}
use Rattle.dv_refusal.specs.declared.refusal.Refusal.{Refusal}
use Rattle.dv_schema.specs.declared.opening.Action.{Action}
use Rattle.dv_units.specs.Chart.{Chart, at, is_user, is_unit}
use Rattle.dv_units.specs.Membership.{unit_of}
use Rattle.dv_store.specs.Cursors.{told_of}
use Rattle.dv_access.specs.Permitted.{Permitted}
use Rattle.dv_access.specs.Denial.{IsDenial}
use Rattle.dv_access.specs.declared.denied.Denied.{Denied}
use Rattle.dv_message.specs.Refusing.{denied_as}
use Rattle.dv_message.specs.Rows.{row_in, OfRow}
use Rattle.dv_message.specs.Scenes.{Targeted}

-- whether an id is that of an owner team, as the default team of a unit is one
abbrev pub is_owner_team : Chart → Id → Bool
is_owner_team chart id = option_map_or (λ team. not team.access) (at chart.teams id) (is_unit chart id)

-- whether an id is that of a user or of an owner team, so that it can own rows
abbrev pub is_owner : Chart → Id → Bool
is_owner chart id = is_user chart id || is_owner_team chart id

-- whether an id is that of a user or of a team, so that it can be given rights; each of them belongs to a unit, and the
-- default team of a unit has the unit's id
abbrev pub is_principal : Chart → Id → Bool
is_principal chart id = is_some (unit_of chart id)

-- the user may do an action on the row that a message names
abbrev pub Allowed : Targeted → Action → Type 0
Allowed t action = Permitted t.setting.directory (told_of t.world) t.setting.user action t.number t.id

-- what the right to do an action says: the user has it, or is denied
abbrev pub MayDo : Targeted → Action → Option Refusal → Type 0
MayDo t action None = Allowed t action
MayDo t action (Some refusal) = (Allowed t action → ⊥)
    × ((denied : Denied) × IsDenial t.setting.directory t.setting.user action t.number denied × (refusal ≡ denied_as t.table denied))

-- the same of a row that may not be there
unfoldable pub RightSays : Targeted → Action → Option Refusal → Type 0
RightSays t action refusal = OfRow (row_in t) (λ row. MayDo t action) refusal
