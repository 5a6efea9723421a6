-- What the row that a message names has to be: there, and of a table whose rows have owners.
use Rattle.std.specs.Prelude.{◌≡◌, ℕ, Option, Some, None, not, slice_get}
use Rattle.std.specs.Option.{unwrap_or}
use Rattle.dv_refusal.specs.declared.refusal.Refusal.{Refusal}
use Rattle.dv_refusal.specs.declared.refusal.Refusal.TheVariants as answer
use Rattle.dv_schema.specs.declared.definition.Definition.{Definition}
use Rattle.dv_schema.specs.declared.table.Table.{Table}
use Rattle.dv_schema.specs.Definitions.{tables_of}
use Rattle.dv_store.specs.declared.keys.RowKey.{RowKey}
use Rattle.dv_store.specs.declared.row.Row.{Row}
use Rattle.dv_store.specs.Keys.{row_key}
use Rattle.dv_store.specs.World.{row_at, is_there}
use Rattle.dv_message.specs.Checked.{refused_if}
use Rattle.dv_message.specs.Scenes.{Targeted}

-- the row that a message names, if it is there
abbrev pub row_in : Targeted → Option Row
row_in t = row_at t.world.rows t.number t.id

-- the table of a number; another where there is none, as there is for each row
abbrev pub table_at_or : Definition → ℕ → Table → Table
table_at_or d number other = unwrap_or (slice_get (tables_of d) number) other

-- another row, as if the message named it
abbrev pub of_key : Targeted → RowKey → Targeted
of_key t key = record { setting = t.setting; world = t.world; number = key.table; table = table_at_or t.setting.definition key.table t.table; id = key.id }

-- a row that isn't there is told by its id and its table
abbrev pub row_fault : Targeted → Option Refusal
row_fault t = refused_if (not (is_there t.world.rows (row_key t.number t.id))) (answer.NotFound t.id t.table.name)

-- rows of a table without owners can't be assigned and shared
abbrev pub share_fault : Table → Option Refusal
share_fault table = refused_if (not table.user_owned) (answer.NotShareable table.name)

-- a check of a row that isn't there passes, since that is told before
abbrev pub OfRow : Option Row → (Row → Option Refusal → Type 0) → Option Refusal → Type 0
OfRow None Says refusal = refusal ≡ None
OfRow (Some row) Says refusal = Says row refusal
