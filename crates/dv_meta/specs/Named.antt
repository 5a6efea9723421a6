-- What a name of a definition names.
use Rattle.std.specs.Prelude.{ℕ, Bool, ◌&&◌, List, map, slice_get, Option, Some, None, if◌then◌else◌, option_map, option_and_then}
use Rattle.dv_schema.specs.declared.draft.Draft.{Draft}
use Rattle.dv_schema.specs.declared.draft.DraftTable.{DraftTable}
use Rattle.dv_schema.specs.declared.draft.DraftColumn.{DraftColumn}
use Rattle.dv_schema.specs.declared.draft.DraftRelationship.{DraftRelationship}
use Rattle.dv_meta.specs.Columns.{own_names}
use Rattle.dv_schema.specs.First.{first}
use Rattle.dv_schema.specs.Names.{Name, same_name, place_of}

abbrev pub table_names : List DraftTable → List Name
table_names tables = map (λ table. table.name) tables

abbrev pub relationship_names : List DraftRelationship → List Name
relationship_names relationships = map (λ relationship. relationship.name) relationships

-- the table of a name
unfoldable pub table_named : Draft → Name → Option DraftTable
table_named draft name = option_and_then (slice_get draft.tables) (place_of (table_names draft.tables) name)

-- the relationship of a name
unfoldable pub relationship_named : Draft → Name → Option DraftRelationship
relationship_named draft name = option_and_then (slice_get draft.relationships) (place_of (relationship_names draft.relationships) name)

-- a table's own column of a name; system columns and companions aren't among these
unfoldable pub own_column : DraftTable → Name → Option DraftColumn
own_column table name = option_and_then (slice_get table.columns) (place_of (own_names table) name)

-- the own column of a table, by the names of both
unfoldable pub column_named : Draft → Name → Name → Option DraftColumn
column_named draft table name = option_and_then (λ found. own_column found name) (table_named draft table)

-- whether a relationship has a column of a child as its lookup
abbrev pub has_lookup : Name → Name → DraftRelationship → Bool
has_lookup child column r = same_name child r.child && same_name column r.column

-- the number of the first relationship that has a column of a child as its lookup
unfoldable pub lookup_of : List DraftRelationship → Name → Name → Option ℕ
lookup_of relationships child column = first (λ k r. if has_lookup child column r then Some k else None) relationships

abbrev pub lookup_number : Draft → Name → Name → Option ℕ
lookup_number draft = lookup_of draft.relationships

-- whether users own the rows of a table of a name, where it is there
abbrev pub owned : Draft → Name → Option Bool
owned draft name = option_map (λ table. table.user_owned) (table_named draft name)
