-- The version that a row has, and the one that a request says it has.
use Rattle.std.specs.Prelude.{◌≡◌, ℕ, ◌==◌, pos, not, Option, None, Some, slice_get}
use Rattle.dv_value.specs.declared.value.Value.{Value}
use Rattle.dv_value.specs.declared.value.Value.TheVariants.{Amount}
use Rattle.dv_refusal.specs.declared.refusal.Refusal.{Refusal}
use Rattle.dv_refusal.specs.declared.refusal.Refusal.TheVariants as answer
use Rattle.dv_store.specs.declared.row.Row.{Row}
use Rattle.dv_store.specs.Rolled.{version_place}
use Rattle.dv_store.specs.Shapes.{is_owned}
use Rattle.dv_message.specs.Checked.{refused_if}
use Rattle.dv_message.specs.Rows.{row_in, OfRow}
use Rattle.dv_message.specs.Scenes.{Targeted}

-- the number that a value is
abbrev pub amount_of : Option Value → ℕ
amount_of (Some (Amount (pos number))) = number
amount_of value = 0

-- the version that a row has
abbrev pub kept_version : Targeted → Row → ℕ
kept_version t row = amount_of (slice_get row.values (version_place (is_owned t.world.shape t.number)))

-- where a request says a version, the row has to be at it; else the one that it has is told
abbrev pub version_fault : Option ℕ → ℕ → Option Refusal
version_fault None kept = None
version_fault (Some version) kept = refused_if (not (version == kept)) (answer.VersionDiffers kept)

-- what the row that a message names says of the version that the message says
unfoldable pub VersionSays : Targeted → Option ℕ → Option Refusal → Type 0
VersionSays t version refusal = OfRow (row_in t) (λ row said. said ≡ version_fault version (kept_version t row)) refusal
