-- Users and teams.
use Rattle.std.specs.Prelude.{Bool, ◌||◌, Option, None, Some, nat_le, if◌then◌else◌}
use Rattle.dv_value.specs.declared.id.Id.{Id}
use Rattle.dv_units.specs.Chart.{Chart, is_unit, is_user, is_team}

-- a user, a further team, or the default team of a unit, which has the unit's id
abbrev pub is_principal : Chart → Id → Bool
is_principal chart id = is_user chart id || (is_team chart id || is_unit chart id)

-- the lesser of two ids that may be missing
abbrev pub lesser : Option Id → Option Id → Option Id
lesser (Some a) (Some b) = if nat_le a.0 b.0 then Some a else Some b
lesser (Some a) None = Some a
lesser None b = b
