-- The columns of a table by name: the system columns in byte order, then the definition's own in their order, each
-- rollup followed by its two companions. A column's number is its place among these.
use Rattle.std.specs.Prelude.{ℕ, ◌+◌, Bool, true, false, List, [], ◌∷◌, ◌++◌, map, flat_map, take, length, codes, pos}
use Rattle.dv_value.specs.declared.kind.Kind.{Kind}
use Rattle.dv_value.specs.declared.kind.Kind.TheVariants.{Ref, Moment, Choice, Amount}
use Rattle.dv_schema.specs.declared.draft.DraftColumn.{DraftColumn}
use Rattle.dv_schema.specs.declared.draft.DraftForm.{DraftForm}
use Rattle.dv_schema.specs.declared.draft.DraftForm.TheVariants.{Plain, Lookup, Rollup}
use Rattle.dv_schema.specs.declared.draft.DraftTable.{DraftTable}
use Rattle.dv_schema.specs.declared.table.Column.{Column}
use Rattle.dv_schema.specs.declared.table.ColumnRole.TheVariants.{System}
use Rattle.dv_schema.specs.Names.{Name}

-- a column that the service keeps itself
abbrev pub system_column : Name → Kind → Column
system_column name kind = record { name = name; kind = kind; required = false; role = System }

-- a state is 0, active, or 1, inactive
abbrev pub states : Kind
states = Choice (pos 0 ∷ pos 1 ∷ [])

-- who owns a row, where rows are owned
abbrev pub owner_columns : Bool → List Column
owner_columns true = system_column (codes "ownerid") Ref ∷ []
owner_columns false = []

-- the columns that every table has, in byte order
unfoldable pub system_columns : Bool → List Column
system_columns owned = system_column (codes "createdby") Ref ∷ system_column (codes "createdon") Moment ∷ system_column (codes "id") Ref ∷ system_column (codes "modifiedby") Ref ∷ system_column (codes "modifiedon") Moment ∷ (owner_columns owned ++ (system_column (codes "statecode") states ∷ system_column (codes "versionnumber") (Amount 0) ∷ []))

-- their names
abbrev pub system_names : Bool → List Name
system_names owned = map (λ column. column.name) (system_columns owned)

-- the names of a rollup's companions: its state and its date
abbrev pub state_name : Name → Name
state_name name = name ++ codes "_state"

abbrev pub date_name : Name → Name
date_name name = name ++ codes "_date"

-- the names that a column of a form takes
abbrev pub names_by : DraftForm → Name → List Name
names_by (Plain kind) name = name ∷ []
names_by Lookup name = name ∷ []
names_by (Rollup rollup) name = name ∷ state_name name ∷ date_name name ∷ []

-- the names that a column of the definition takes
abbrev pub names_of : DraftColumn → List Name
names_of column = names_by column.form column.name

-- the names of all columns of a table, in the order of their numbers
unfoldable pub column_names : DraftTable → List Name
column_names table = system_names table.user_owned ++ flat_map names_of table.columns

-- the names of a table's own columns, as the definition lists them
abbrev pub own_names : DraftTable → List Name
own_names table = map (λ column. column.name) table.columns

-- the number of the definition's column at a place of its list
unfoldable pub column_number : DraftTable → ℕ → ℕ
column_number table j = length (system_names table.user_owned) + length (flat_map names_of (take j table.columns))
