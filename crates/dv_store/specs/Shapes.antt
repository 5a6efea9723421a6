-- What a store keeps of its definition.
use Rattle.std.specs.Prelude.{ℕ, ◌+◌, ◌-◌, Bool, false, List, [], ◌∷◌, ◌++◌, Option, None, Some, map, slice_get, nat_lt, if◌then◌else◌}
use Rattle.dv_schema.specs.declared.definition.Definition.{Definition}
use Rattle.dv_schema.specs.declared.relationship.Relationship.{Relationship}
use Rattle.dv_schema.specs.declared.table.Column.{Column}
use Rattle.dv_schema.specs.declared.table.ColumnRole.{ColumnRole}
use Rattle.dv_schema.specs.declared.table.ColumnRole.TheVariants.{Rollup}
use Rattle.dv_schema.specs.declared.table.Table.{Table}
use Rattle.dv_schema.specs.Definitions.{tables_of, relationships_of}
use Rattle.dv_store.specs.declared.shape.Feed.{Feed}
use Rattle.dv_store.specs.declared.shape.Link.{Link}
use Rattle.dv_store.specs.declared.shape.Shape.{Shape}

-- the place of a column among a row's values, which leave out the id, column 2
abbrev pub place_of : ℕ → ℕ
place_of column = if nat_lt 2 column then column - 1 else column

-- for each table, whether users and teams own its rows
abbrev pub owned_of : List Table → List Bool
owned_of tables = map (λ table. table.user_owned) tables

-- for each table, whether its removed rows leave removals
abbrev pub tracked_of : List Table → List Bool
tracked_of tables = map (λ table. table.tracking) tables

-- each relationship's child table and the place of its lookup
abbrev pub links_of : List Relationship → List Link
links_of relationships = map (λ r. record { child = r.child; place = place_of r.column }) relationships

-- the feed of a rollup by its relationship, if that is there
abbrev pub feed_by : ℕ → ℕ → Option Relationship → List Feed
feed_by parent column None = []
feed_by parent column (Some r) = record { child = r.child; place = place_of r.column; parent = parent; column = column } ∷ []

-- the feed of a column of a table by what it is there for; a column's number has 16 bits
abbrev pub feeds_of_role : List Relationship → ℕ → ℕ → ColumnRole → List Feed
feeds_of_role relationships parent column (Rollup rollup) = if nat_lt column 65536 then feed_by parent column (slice_get relationships rollup.over) else []
feeds_of_role relationships parent column role = []

-- the feeds of a table's columns, the first of which has a number
abbrev pub feeds_of_columns : List Relationship → ℕ → ℕ → List Column → List Feed
feeds_of_columns relationships parent column [] = []
feeds_of_columns relationships parent column (c ∷ cs) = feeds_of_role relationships parent column c.role ++ feeds_of_columns relationships parent (column + 1) cs

-- the feeds of tables, the first of which has a number
abbrev pub feeds_of_tables : List Relationship → ℕ → List Table → List Feed
feeds_of_tables relationships number [] = []
feeds_of_tables relationships number (t ∷ ts) = feeds_of_columns relationships number 0 t.columns ++ feeds_of_tables relationships (number + 1) ts

unfoldable pub shape_of : Definition → Shape
shape_of d = record {
  owned = owned_of (tables_of d);
  tracked = tracked_of (tables_of d);
  links = links_of (relationships_of d);
  feeds = feeds_of_tables (relationships_of d) 0 (tables_of d);
}

-- whether a table is there and marked in a list of all tables
abbrev pub is_marked : Option Bool → Bool
is_marked None = false
is_marked (Some mark) = mark

-- whether users and teams own the rows of a table
abbrev pub is_owned : Shape → ℕ → Bool
is_owned shape table = is_marked (slice_get shape.owned table)

-- whether the removed rows of a table leave removals
abbrev pub is_tracked : Shape → ℕ → Bool
is_tracked shape table = is_marked (slice_get shape.tracked table)
