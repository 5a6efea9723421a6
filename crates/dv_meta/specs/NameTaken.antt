-- A name is taken where two tables, two relationships or two columns of one table have it, system columns and the
-- companions of rollups too; and a column is taken where two relationships have it. The later one is at fault.
use Rattle.std.specs.Prelude.{ℕ, Bool, false, ◌||◌, Option, Some, None, if◌then◌else◌, nat_lt, option_map, position}
use Rattle.std.specs.List.{list_any, enumerate_from}
use Rattle.std.specs.Option.{option_or, option_map_or}
use Rattle.dv_schema.specs.declared.draft.Draft.{Draft}
use Rattle.dv_schema.specs.declared.draft.DraftColumn.{DraftColumn}
use Rattle.dv_schema.specs.declared.draft.DraftRelationship.{DraftRelationship}
use Rattle.dv_schema.specs.declared.draft.DraftTable.{DraftTable}
use Rattle.dv_schema.specs.declared.place.Place.{Place}
use Rattle.dv_schema.specs.declared.place.Place.TheVariants.{Table, Column, Relationship}
use Rattle.dv_meta.specs.Columns.{column_names, column_number, names_of}
use Rattle.dv_schema.specs.First.{first}
use Rattle.dv_meta.specs.Named.{table_names, relationship_names, lookup_number}
use Rattle.dv_schema.specs.Names.{stands_before}

-- whether one of the column's names is that of an earlier column
unfoldable pub takes_name : DraftTable → ℕ → DraftColumn → Bool
takes_name table j column = list_any (stands_before (column_names table) (column_number table j)) (names_of column)

-- the first column of a table that takes a name
unfoldable pub taken_in : DraftTable → Option ℕ
taken_in table = first (λ j column. if takes_name table j column then Some j else None) table.columns

-- the table's name is taken, or else one of its columns takes a name
unfoldable pub taken_at_table : Draft → ℕ → DraftTable → Option Place
taken_at_table draft i table = if stands_before (table_names draft.tables) i table.name then Some (Table i) else option_map (λ j. Column i j) (taken_in table)

-- whether the relationship's name is that of an earlier one, or its column is
unfoldable pub takes_column : Draft → ℕ × DraftRelationship → Bool
takes_column draft at_k = stands_before (relationship_names draft.relationships) at_k.0 at_k.1.name || option_map_or (λ j. nat_lt j at_k.0) (lookup_number draft at_k.1.child at_k.1.column) false

unfoldable pub taken_in_tables : Draft → Option Place
taken_in_tables draft = first (taken_at_table draft) draft.tables

unfoldable pub taken_in_relationships : Draft → Option Place
taken_in_relationships draft = option_map Relationship (position (takes_column draft) (enumerate_from 0 draft.relationships))

-- the first place that takes a name
unfoldable pub name_taken : Draft → Option Place
name_taken draft = option_or (taken_in_tables draft) (taken_in_relationships draft)
