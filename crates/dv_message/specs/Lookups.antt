-- The lookups that a request gives a row: which rows they name, and what is checked of these.
use Rattle.std.specs.Prelude.{◌≡◌, ℕ, List, [], ◌∷◌, flat_map, Option, Some, None, if◌then◌else◌}
use Rattle.std.specs.Str.{bytes_eq}
use Rattle.dv_value.specs.declared.kind.Kind.{Kind}
use Rattle.dv_value.specs.declared.raw.Raw.{Raw}
use Rattle.dv_value.specs.declared.value.Value.{Value}
use Rattle.dv_value.specs.declared.value.Value.TheVariants as value
use Rattle.dv_refusal.specs.declared.refusal.Refusal.{Refusal}
use Rattle.dv_schema.specs.declared.definition.Definition.{Definition}
use Rattle.dv_schema.specs.declared.opening.Action.TheVariants.{AppendTo}
use Rattle.dv_schema.specs.declared.relationship.Relationship.{Relationship}
use Rattle.dv_schema.specs.declared.table.Column.{Column}
use Rattle.dv_schema.specs.declared.table.ColumnRole.{ColumnRole}
use Rattle.dv_schema.specs.declared.table.ColumnRole.TheVariants.{Lookup}
use Rattle.dv_schema.specs.Sound.{relationship_at}
use Rattle.dv_store.specs.Keys.{row_key}
use Rattle.dv_message.specs.declared.lookups.Naming.{Naming}
use Rattle.dv_message.specs.Checked.{Both, FirstOf}
use Rattle.dv_message.specs.Columns.{given_by}
use Rattle.dv_message.specs.Rights.{RightSays}
use Rattle.dv_message.specs.Rows.{of_key, row_fault}
use Rattle.dv_message.specs.Scenes.{Targeted}

-- the row of a relationship's parent table that a value names, if it names one
abbrev pub naming_by : ℕ → Option Relationship → Value → List Naming
naming_by number (Some r) (value.Ref id) = record { relationship = number; parent = row_key r.parent id } ∷ []
naming_by number r other = []

-- the row that a value names which is given for a column: none, unless the column is a lookup
unfoldable pub naming_in : Definition → Kind → ColumnRole → Raw → List Naming
naming_in d kind (Lookup number) raw = naming_by number (relationship_at d number) (given_by kind (Some raw))
naming_in d kind other raw = []

-- the row that a given value names in a column: none, unless it is given for that column
abbrev pub naming_of : Definition → List ℕ × Raw → Column → List Naming
naming_of d given column = if bytes_eq column.name given.0 then naming_in d column.kind column.role given.1 else []

-- the row that a given value names in the column of its name
abbrev pub namings_of : Definition → List Column → List ℕ × Raw → List Naming
namings_of d columns given = flat_map (naming_of d given) columns

-- the rows that the lookups name which are given, in the order of the columns' names
abbrev pub namings : Definition → List Column → List (List ℕ × Raw) → List Naming
namings d columns values = flat_map (namings_of d columns) values

-- a row that is named has to be there
abbrev pub IsThere : Targeted → Naming → Option Refusal → Type 0
IsThere t naming said = said ≡ row_fault (of_key t naming.parent)

-- what the rows say that are named: each is there
unfoldable pub NamedSays : Targeted → List Naming → Option Refusal → Type 0
NamedSays t named said = FirstOf (IsThere t) named said

-- what a row says that is named: it is there, and the user may append to it
abbrev pub AppendToSays : Targeted → Naming → Option Refusal → Type 0
AppendToSays t naming said = Both (IsThere t naming) (RightSays (of_key t naming.parent) AppendTo) said

-- What the lookups say that are given: for each, the user may append the row that gets it, which is said elsewhere, and then
-- the row that it names is there, and the user may append to that.
unfoldable pub AppendSays : (Option Refusal → Type 0) → Targeted → List Naming → Option Refusal → Type 0
AppendSays MayAppend t named said = FirstOf (λ naming. Both MayAppend (AppendToSays t naming)) named said
