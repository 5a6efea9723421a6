-- What a query names by the names of tables and columns.
use Rattle.std.specs.Prelude.{ℕ, Bool, true, false, not, List, Option, find, position, option_and_then}
use Rattle.std.specs.Option.{is_some, option_map_or}
use Rattle.dv_value.specs.declared.kind.Kind.{Kind}
use Rattle.dv_value.specs.declared.kind.Kind.TheVariants.{Flag, Whole, Choice, Amount, Moment, Text, Ref}
use Rattle.dv_schema.specs.declared.definition.Definition.{Definition}
use Rattle.dv_schema.specs.declared.table.Column.{Column}
use Rattle.dv_schema.specs.declared.table.Table.{Table}
use Rattle.dv_schema.specs.Definitions.{tables_of}
use Rattle.dv_schema.specs.Names.{Name, same_name}

-- the table of a name
unfoldable pub table_named : Definition → Name → Option Table
table_named d name = find (λ table. same_name table.name name) (tables_of d)

-- the column of a name
unfoldable pub column_named : Table → Name → Option Column
column_named table name = find (λ column. same_name column.name name) table.columns

-- whether a column of the kind holds ids
unfoldable pub is_reference : Kind → Bool
is_reference Flag = false
is_reference (Whole min max) = false
is_reference (Choice options) = false
is_reference (Amount scale) = false
is_reference Moment = false
is_reference (Text max) = false
is_reference Ref = true

-- whether there is a table, and it has a column of the name that holds ids
unfoldable pub has_reference : Option Table → Name → Bool
has_reference table name = option_map_or (λ column. is_reference column.kind) (option_and_then (λ t. column_named t name) table) false

-- the place of the first name that is no column of the table
unfoldable pub unknown_in : Table → List Name → Option ℕ
unknown_in table names = position (λ name. not (is_some (column_named table name))) names
