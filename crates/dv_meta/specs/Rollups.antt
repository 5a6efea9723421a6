-- A rollup goes over a relationship whose parent is its own table, takes a whole or an amount column of the child
-- that the definition lists and that is no rollup (a count takes none), and is never required.
use Rattle.std.specs.Prelude.{ℕ, Bool, true, false, not, ◌&&◌, ◌||◌, Option, Some, None, is_none, option_map, position}
use Rattle.std.specs.Option.{option_map_or}
use Rattle.dv_value.specs.declared.kind.Kind.{Kind}
use Rattle.dv_value.specs.declared.kind.Kind.TheVariants.{Whole, Amount}
use Rattle.dv_schema.specs.declared.draft.Draft.{Draft}
use Rattle.dv_schema.specs.declared.draft.DraftColumn.{DraftColumn}
use Rattle.dv_schema.specs.declared.draft.DraftForm.{DraftForm}
use Rattle.dv_schema.specs.declared.draft.DraftForm.TheVariants.{Plain, Lookup, Rollup}
use Rattle.dv_schema.specs.declared.draft.DraftRollup.{DraftRollup}
use Rattle.dv_schema.specs.declared.draft.DraftTable.{DraftTable}
use Rattle.dv_schema.specs.declared.place.Place.{Place}
use Rattle.dv_schema.specs.declared.place.Place.TheVariants as at
use Rattle.dv_schema.specs.declared.table.RollupKind.{RollupKind}
use Rattle.dv_schema.specs.declared.table.RollupKind.TheVariants.{Sum, Count, Min, Max}
use Rattle.dv_schema.specs.First.{first}
use Rattle.dv_meta.specs.Named.{relationship_named, own_column}
use Rattle.dv_schema.specs.Names.{Name, same_name}
use Rattle.dv_meta.specs.UnknownName.{source_of}

-- whether values of the kind can be added and compared
abbrev pub is_countable : Kind → Bool
is_countable (Whole low high) = true
is_countable (Amount scale) = true
is_countable _ = false

abbrev pub is_source : DraftForm → Bool
is_source (Plain kind) = is_countable kind
is_source Lookup = false
is_source (Rollup rollup) = false

-- whether a name is given and names a column that can be taken
abbrev pub names_source : DraftTable → Option Name → Bool
names_source table None = false
names_source table (Some name) = option_map_or (λ column. is_source column.form) (own_column table name) false

-- whether the column that is given suits what the rollup makes of it
abbrev pub of_suits : RollupKind → DraftTable → Option Name → Bool
of_suits Count table name = is_none name
of_suits Sum table name = names_source table name
of_suits Min table name = names_source table name
of_suits Max table name = names_source table name

-- whether the rollup's relationship has the table as its parent
unfoldable pub goes_over : Draft → Name → DraftRollup → Bool
goes_over draft table rollup = option_map_or (λ r. same_name r.parent table) (relationship_named draft rollup.over) false

unfoldable pub source_suits : Draft → DraftRollup → Bool
source_suits draft rollup = option_map_or (λ table. of_suits rollup.kind table rollup.of) (source_of draft rollup) false

abbrev pub form_bad : Draft → Name → Bool → DraftForm → Bool
form_bad draft table required (Plain kind) = false
form_bad draft table required Lookup = false
form_bad draft table required (Rollup rollup) = required || not (goes_over draft table rollup && source_suits draft rollup)

-- whether the column is a rollup that can't be calculated, or that is required
unfoldable pub rollup_bad : Draft → DraftTable → DraftColumn → Bool
rollup_bad draft table column = form_bad draft table.name column.required column.form

-- the first such column of a table
unfoldable pub bad_in : Draft → ℕ → DraftTable → Option Place
bad_in draft i table = option_map (λ j. at.Column i j) (position (rollup_bad draft table) table.columns)

-- the first such column
unfoldable pub bad_rollup : Draft → Option Place
bad_rollup draft = first (bad_in draft) draft.tables
