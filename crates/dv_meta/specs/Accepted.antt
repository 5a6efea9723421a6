-- The accepted definition of a text without a fault: columns are numbered, names are resolved to numbers.
use Rattle.std.specs.Prelude.{◌≡◌, ℕ, Bool, false, List, [], ◌∷◌, ◌++◌, map, flat_map, Option, unwrap_or, option_and_then, pos, negsuc}
use Rattle.std.specs.Option.{option_map_or}
use Rattle.dv_value.specs.declared.kind.Kind.{Kind}
use Rattle.dv_value.specs.declared.kind.Kind.TheVariants.{Whole, Amount, Moment, Ref}
use Rattle.dv_schema.specs.declared.definition.Definition.{Definition}
use Rattle.dv_schema.specs.declared.draft.Draft.{Draft}
use Rattle.dv_schema.specs.declared.draft.DraftColumn.{DraftColumn}
use Rattle.dv_schema.specs.declared.draft.DraftForm.{DraftForm}
use Rattle.dv_schema.specs.declared.draft.DraftForm.TheVariants as form
use Rattle.dv_schema.specs.declared.draft.DraftRegistration.{DraftRegistration}
use Rattle.dv_schema.specs.declared.draft.DraftRelationship.{DraftRelationship}
use Rattle.dv_schema.specs.declared.draft.DraftRollup.{DraftRollup}
use Rattle.dv_schema.specs.declared.draft.DraftTable.{DraftTable}
use Rattle.dv_schema.specs.declared.registration.Registration.{Registration}
use Rattle.dv_schema.specs.declared.relationship.Relationship.{Relationship}
use Rattle.dv_schema.specs.declared.table.Column.{Column}
use Rattle.dv_schema.specs.declared.table.ColumnRole.TheVariants as role
use Rattle.dv_schema.specs.declared.table.Rollup.{Rollup}
use Rattle.dv_schema.specs.declared.table.Table.{Table}
use Rattle.dv_meta.specs.Columns.{system_columns, column_names, state_name, date_name}
use Rattle.dv_schema.specs.Definitions.{tables_of, relationships_of, steps_of, opening_of}
use Rattle.dv_meta.specs.Named.{table_names, relationship_names, table_named, own_column, lookup_number}
use Rattle.dv_schema.specs.Names.{Name, place_of}
use Rattle.dv_meta.specs.UnknownName.{source_of}

-- the number that was found; where none was, there is a fault and the number doesn't matter
abbrev pub number_of : Option ℕ → ℕ
number_of found = unwrap_or found 0

-- an integer without limits
abbrev pub any_whole : Kind
any_whole = Whole (negsuc 2147483647) (pos 2147483647)

-- the kind of a source column, without its limits
abbrev pub unlimited : DraftForm → Kind
unlimited (form.Plain (Amount scale)) = Amount scale
unlimited _ = any_whole

-- the number of a column of the table that a rollup takes
unfoldable pub source_number : Draft → DraftRollup → Option ℕ
source_number draft rollup = option_and_then (λ name. option_and_then (λ table. place_of (column_names table) name) (source_of draft rollup)) rollup.of

-- a rollup's values have the kind of its source column, and a count is an integer
unfoldable pub rollup_kind : Draft → DraftRollup → Kind
rollup_kind draft rollup = option_map_or (λ column. unlimited column.form) (option_and_then (λ name. option_and_then (λ table. own_column table name) (source_of draft rollup)) rollup.of) any_whole

unfoldable pub rollup_of : Draft → DraftRollup → Rollup
rollup_of draft rollup = record {
  kind = rollup.kind;
  over = number_of (place_of (relationship_names draft.relationships) rollup.over);
  of = source_number draft rollup;
  active = rollup.active;
}

-- the column that is calculated
abbrev pub rollup_column : Draft → Name → Bool → DraftRollup → Column
rollup_column draft name required rollup = record { name = name; kind = rollup_kind draft rollup; required = required; role = role.Rollup (rollup_of draft rollup) }

-- a column that goes with a rollup
abbrev pub companion : Name → Kind → Column
companion name kind = record { name = name; kind = kind; required = false; role = role.Companion }

-- a column of the text, and after a rollup its state and its date
abbrev pub columns_by : Draft → Name → Name → Bool → DraftForm → List Column
columns_by draft table name required (form.Plain kind) = record { name = name; kind = kind; required = required; role = role.Plain } ∷ []
columns_by draft table name required form.Lookup = record { name = name; kind = Ref; required = required; role = role.Lookup (number_of (lookup_number draft table name)) } ∷ []
columns_by draft table name required (form.Rollup rollup) = rollup_column draft name required rollup ∷ companion (state_name name) any_whole ∷ companion (date_name name) Moment ∷ []

unfoldable pub columns_of : Draft → DraftTable → DraftColumn → List Column
columns_of draft table column = columns_by draft table.name column.name column.required column.form

unfoldable pub table_of : Draft → DraftTable → Table
table_of draft table = record {
  name = table.name;
  user_owned = table.user_owned;
  tracking = table.tracking;
  columns = system_columns table.user_owned ++ flat_map (columns_of draft table) table.columns;
}

-- the number of a table
abbrev pub table_number : Draft → Name → ℕ
table_number draft name = number_of (place_of (table_names draft.tables) name)

-- the number of a column of a table, by the names of both
unfoldable pub number_in_table : Draft → Name → Name → Option ℕ
number_in_table draft table name = option_and_then (λ found. place_of (column_names found) name) (table_named draft table)

unfoldable pub relationship_of : Draft → DraftRelationship → Relationship
relationship_of draft r = record {
  name = r.name;
  parent = table_number draft r.parent;
  child = table_number draft r.child;
  column = number_of (number_in_table draft r.child r.column);
  assign = r.assign;
  share = r.share;
  unshare = r.unshare;
  reparent = r.reparent;
  delete = r.delete;
}

unfoldable pub registration_of : Draft → DraftRegistration → Registration
registration_of draft g = record {
  step = g.step;
  message = g.message;
  table = table_number draft g.table;
  stage = g.stage;
  rank = g.rank;
  columns = g.columns;
  user = g.user;
  pre = g.pre;
  post = g.post;
  config = g.config;
}

-- the definition of a text without a fault
pub record IsDefinitionOf (draft : Draft) (definition : Definition) : Type 0 where
  pub tables : tables_of definition ≡ map (table_of draft) draft.tables
  pub relationships : relationships_of definition ≡ map (relationship_of draft) draft.relationships
  pub steps : steps_of definition ≡ map (registration_of draft) draft.steps
  pub opening : opening_of definition ≡ draft.opening
