-- A name is unknown where it names a table, a column or a relationship that isn't there; where a relationship's
-- column isn't a lookup of its child; and where a lookup has no relationship.
use Rattle.std.specs.Prelude.{ℕ, Bool, true, false, not, ◌||◌, List, Option, Some, None, is_none, option_map, option_and_then, position}
use Rattle.std.specs.List.{list_any}
use Rattle.std.specs.Option.{option_or, option_map_or}
use Rattle.dv_schema.specs.declared.draft.Draft.{Draft}
use Rattle.dv_schema.specs.declared.draft.DraftColumn.{DraftColumn}
use Rattle.dv_schema.specs.declared.draft.DraftForm.{DraftForm}
use Rattle.dv_schema.specs.declared.draft.DraftForm.TheVariants.{Plain, Lookup, Rollup}
use Rattle.dv_schema.specs.declared.draft.DraftRelationship.{DraftRelationship}
use Rattle.dv_schema.specs.declared.draft.DraftRegistration.{DraftRegistration}
use Rattle.dv_schema.specs.declared.draft.DraftRollup.{DraftRollup}
use Rattle.dv_schema.specs.declared.draft.DraftTable.{DraftTable}
use Rattle.dv_schema.specs.declared.opening.Role.{Role}
use Rattle.dv_schema.specs.declared.place.Place.{Place}
use Rattle.dv_schema.specs.declared.place.Place.TheVariants as at
use Rattle.dv_meta.specs.Columns.{column_names}
use Rattle.dv_schema.specs.First.{first}
use Rattle.dv_meta.specs.Named.{table_named, relationship_named, column_named, lookup_number}
use Rattle.dv_schema.specs.Names.{Name, is_among}

-- whether a name is given that is none of the table's columns
abbrev pub of_unknown : Option Name → DraftTable → Bool
of_unknown None table = false
of_unknown (Some name) table = not (is_among (column_names table) name)

-- the table whose rows a rollup takes
unfoldable pub source_of : Draft → DraftRollup → Option DraftTable
source_of draft rollup = option_and_then (λ r. table_named draft r.child) (relationship_named draft rollup.over)

-- whether a rollup's relationship, its child or the child's column isn't there
unfoldable pub rollup_unknown : Draft → DraftRollup → Bool
rollup_unknown draft rollup = option_map_or (of_unknown rollup.of) (source_of draft rollup) true

-- whether a column of a form names what isn't there, or is a lookup without a relationship
abbrev pub form_unknown : Draft → Name → Name → DraftForm → Bool
form_unknown draft table name (Plain kind) = false
form_unknown draft table name Lookup = is_none (lookup_number draft table name)
form_unknown draft table name (Rollup rollup) = rollup_unknown draft rollup

unfoldable pub column_unknown : Draft → DraftTable → DraftColumn → Bool
column_unknown draft table column = form_unknown draft table.name column.name column.form

-- whether a column is there and a lookup
abbrev pub is_lookup : DraftForm → Bool
is_lookup (Plain kind) = false
is_lookup Lookup = true
is_lookup (Rollup rollup) = false

unfoldable pub names_lookup : Draft → DraftRelationship → Bool
names_lookup draft r = option_map_or (λ column. is_lookup column.form) (column_named draft r.child r.column) false

unfoldable pub relationship_unknown : Draft → DraftRelationship → Bool
relationship_unknown draft r = is_none (table_named draft r.parent) || not (names_lookup draft r)

-- whether one of the names is none of the table's columns
unfoldable pub names_unknown : DraftTable → List Name → Bool
names_unknown table names = list_any (λ name. not (is_among (column_names table) name)) names

abbrev pub given_unknown : DraftTable → Option (List Name) → Bool
given_unknown table None = false
given_unknown table (Some names) = names_unknown table names

unfoldable pub registration_unknown_on : DraftRegistration → DraftTable → Bool
registration_unknown_on g table = given_unknown table g.columns || (names_unknown table g.pre || names_unknown table g.post)

unfoldable pub registration_unknown : Draft → DraftRegistration → Bool
registration_unknown draft g = option_map_or (registration_unknown_on g) (table_named draft g.table) true

-- whether an entry names a table that isn't there
abbrev pub privilege_unknown : Draft → Option Name → Bool
privilege_unknown draft None = false
privilege_unknown draft (Some name) = is_none (table_named draft name)

unfoldable pub role_unknown : Draft → Role → Bool
role_unknown draft role = list_any (λ entry. privilege_unknown draft entry.table) role.entries

-- the first column of a table that names what isn't there
unfoldable pub unknown_in : Draft → ℕ → DraftTable → Option Place
unknown_in draft i table = option_map (λ j. at.Column i j) (position (column_unknown draft table) table.columns)

unfoldable pub unknown_in_tables : Draft → Option Place
unknown_in_tables draft = first (unknown_in draft) draft.tables

unfoldable pub unknown_in_relationships : Draft → Option Place
unknown_in_relationships draft = option_map at.Relationship (position (relationship_unknown draft) draft.relationships)

unfoldable pub unknown_in_steps : Draft → Option Place
unknown_in_steps draft = option_map at.Registration (position (registration_unknown draft) draft.steps)

unfoldable pub unknown_in_roles : Draft → Option Place
unknown_in_roles draft = option_map at.Role (position (role_unknown draft) draft.opening.roles)

-- the first place that names what isn't there
unfoldable pub unknown_name : Draft → Option Place
unknown_name draft = option_or (unknown_in_tables draft) (option_or (unknown_in_relationships draft) (option_or (unknown_in_steps draft) (unknown_in_roles draft)))
