-- What an accepted definition has.
use Rattle.std.specs.Prelude.{ℕ, List, Option, position, encode_utf8_all}
use Rattle.std.specs.Str.{bytes_eq}
use Rattle.dv_schema.specs.declared.definition.Definition.{Definition}
use Rattle.dv_schema.specs.declared.opening.Opening.{Opening}
use Rattle.dv_schema.specs.declared.registration.Registration.{Registration}
use Rattle.dv_schema.specs.declared.relationship.Relationship.{Relationship}
use Rattle.dv_schema.specs.declared.table.Table.{Table}

-- its tables; a table's number is its place
abbrev pub tables_of : Definition → List Table
tables_of definition = definition.tables

-- its relationships; a relationship's number is its place
abbrev pub relationships_of : Definition → List Relationship
relationships_of definition = definition.relationships

-- its registrations of steps
abbrev pub steps_of : Definition → List Registration
steps_of definition = definition.steps

-- the directory to begin with
abbrev pub opening_of : Definition → Opening
opening_of definition = definition.opening

-- the number of the table whose name has these bytes
abbrev pub table_of_bytes : Definition → List ℕ → Option ℕ
table_of_bytes definition name = position (λ table. bytes_eq (encode_utf8_all table.name) name) definition.tables
