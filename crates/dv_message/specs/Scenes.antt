-- Who asks what, of which organisation and when; and the row that a message names.
use Rattle.std.specs.Prelude.{◌≡◌, ℕ, ℤ, List, Option, Some, None, Result, Err, slice_get, encode_utf8_all}
use Rattle.std.specs.Option.{option_and_then, option_map}
use Rattle.dv_value.specs.declared.id.Id.{Id}
use Rattle.dv_refusal.specs.declared.refusal.Refusal.{Refusal}
use Rattle.dv_refusal.specs.declared.refusal.Refusal.TheVariants as refusal
use Rattle.dv_schema.specs.declared.definition.Definition.{Definition}
use Rattle.dv_schema.specs.Definitions.{tables_of, table_of_bytes}
use Rattle.dv_schema.specs.declared.table.Table.{Table}
use Rattle.dv_roles.specs.State.{State}
use Rattle.dv_store.specs.World.{World}
use Rattle.dv_request.specs.declared.reply.Reply.{Reply}
use Rattle.dv_message.specs.declared.rows.Target.{Target}
use Rattle.dv_message.specs.declared.scene.Scene.{Scene}

-- who asks, of which organisation, and when
pub record Setting : Type 0 where
  pub directory : State
  pub definition : Definition
  pub user : Id
  pub moment : ℤ

abbrev pub setting_of : Scene → Setting
setting_of s = record { directory = s.directory.now; definition = s.definition.now; user = s.user; moment = s.moment }

-- the row that a message names, in a world: its table and the number of that, and its id
pub record Targeted : Type 0 where
  pub setting : Setting
  pub world : World
  pub number : ℕ
  pub table : Table
  pub id : Id

abbrev pub targeted_in : World → Target → Targeted
targeted_in w t = record { setting = setting_of t.scene; world = w; number = t.number; table = t.table.now; id = t.id }

-- a row that a message names is of the table that the definition has at its number
abbrev pub IsOfItsTable : Target → Type 0
IsOfItsTable t = slice_get (tables_of t.scene.definition.now) t.number ≡ Some t.table.now

-- the table of a name, with its number
unfoldable pub table_at : Definition → List ℕ → Option (ℕ × Table)
table_at d name = option_and_then (λ number. option_map (λ table. (number, table)) (slice_get (tables_of d) number)) (table_of_bytes d (encode_utf8_all name))

-- the row that a message names by its table's name and its id, where there is such a table
unfoldable pub aimed_at : Setting → World → List ℕ → Id → Option Targeted
aimed_at s w name id = option_map (λ found. record { setting = s; world = w; number = found.0; table = found.1; id = id }) (table_at s.definition name)

-- a refusal, which leaves the world
abbrev pub IsRefused : Refusal → World → World → Result Reply Refusal → Type 0
IsRefused why old new outcome = (outcome ≡ Err why) × (new ≡ old)

-- a message on a row: a table that isn't there is told first, and else the message runs on the row
unfoldable pub OnRow : Option Targeted → List ℕ → World → World → Result Reply Refusal → (Targeted → Type 0) → Type 0
OnRow None name old new outcome Runs = IsRefused (refusal.UnknownTable name) old new outcome
OnRow (Some target) name old new outcome Runs = Runs target
