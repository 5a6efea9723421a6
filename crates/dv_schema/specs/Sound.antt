-- What an accepted definition keeps in numbers alone, for a reader who has the definition and not its text: each number
-- names what is there, and lookups and relationships belong together.
use Rattle.std.specs.Prelude.{◌≡◌, ◌<◌, ◌≤◌, ℕ, Bool, true, false, ◌||◌, List, length, Option, Some, slice_get, option_map, option_and_then, if◌then◌else◌}
use Rattle.std.specs.Option.{option_map_or}
use Rattle.dv_value.specs.declared.kind.Kind.TheVariants.{Ref}
use Rattle.dv_schema.specs.declared.definition.Definition.{Definition}
use Rattle.dv_schema.specs.declared.relationship.Cascade.{Cascade}
use Rattle.dv_schema.specs.declared.relationship.Cascade.TheVariants.{NoCascade}
use Rattle.dv_schema.specs.declared.relationship.Relationship.{Relationship}
use Rattle.dv_schema.specs.declared.table.Column.{Column}
use Rattle.dv_schema.specs.declared.table.ColumnRole.{ColumnRole}
use Rattle.dv_schema.specs.declared.table.ColumnRole.TheVariants.{System, Plain, Lookup, Rollup, Companion}
use Rattle.dv_schema.specs.declared.table.Table.{Table}
use Rattle.dv_schema.specs.Definitions.{tables_of, relationships_of, steps_of}
use Rattle.dv_schema.specs.Limits.{most_relationships}

-- what holds of each item of a list and its place
abbrev pub Each : {X : Type 0} → List X → (ℕ → X → Type 0) → Type 0
Each {X} xs P = (k : ℕ) (x : X) → slice_get xs k ≡ Some x → P k x

-- the table of a number
abbrev pub table_at : Definition → ℕ → Option Table
table_at d i = slice_get (tables_of d) i

-- the relationship of a number
abbrev pub relationship_at : Definition → ℕ → Option Relationship
relationship_at d k = slice_get (relationships_of d) k

-- the column of a table, by the numbers of both
abbrev pub column_of : Definition → ℕ → ℕ → Option Column
column_of d i j = option_and_then (λ table. slice_get table.columns j) (table_at d i)

-- what a column is there for, by the numbers of its table and its own
abbrev pub role_at : Definition → ℕ → ℕ → Option ColumnRole
role_at d i j = option_map (λ column. column.role) (column_of d i j)

-- how many columns of a table the service keeps itself, in front of those that its definition lists; one of them is the
-- owner, where rows have owners
abbrev pub system_count : Bool → ℕ
system_count owned = if owned then 8 else 7

-- whether users and teams own the rows of a table
abbrev pub has_owners : Definition → ℕ → Bool
has_owners d i = option_map_or (λ table. table.user_owned) (table_at d i) false

-- whether a cascade is one at all
abbrev pub hands_on : Cascade → Bool
hands_on NoCascade = false
hands_on _ = true

-- whether a relationship is parental: an assignment, a share, the end of one or a new parent is handed on
abbrev pub is_parental : Relationship → Bool
is_parental r = hands_on r.assign || (hands_on r.share || (hands_on r.unshare || hands_on r.reparent))

-- a lookup names rows, stands behind the columns that the service keeps itself, and is the column of its relationship
pub record IsSoundLookup (d : Definition) (table : Table) (i j : ℕ) (column : Column) (k : ℕ) : Type 0 where
  pub kind : column.kind ≡ Ref
  pub behind : system_count table.user_owned ≤ j
  pub named : option_map {U = ℕ × ℕ} (λ r. (r.child, r.column)) (relationship_at d k) ≡ Some (i, j)

-- a lookup is one of its relationship, and a rollup's relationship has the column's table as its parent
abbrev pub IsSoundRole : Definition → Table → ℕ → ℕ → Column → ColumnRole → Type 0
IsSoundRole d table i j column (Lookup k) = IsSoundLookup d table i j column k
IsSoundRole d table i j column (Rollup rollup) = option_map (λ r. r.parent) (relationship_at d rollup.over) ≡ Some i
IsSoundRole d table i j column System = Unit {0}
IsSoundRole d table i j column Plain = Unit {0}
IsSoundRole d table i j column Companion = Unit {0}

-- parent and child are tables, the column is the child's lookup by this very relationship; a parental one is the only one
-- of its child, and joins tables whose rows have owners
pub record IsSoundRelationship (d : Definition) (k : ℕ) (r : Relationship) : Type 0 where
  pub parent : r.parent < length (tables_of d)
  pub child : r.child < length (tables_of d)
  pub column : role_at d r.child r.column ≡ Some (Lookup k)
  pub only_parent : is_parental r ≡ true → (j : ℕ) (s : Relationship) → relationship_at d j ≡ Some s → is_parental s ≡ true → s.child ≡ r.child → j ≡ k
  pub owned : is_parental r ≡ true → (has_owners d r.parent ≡ true) × (has_owners d r.child ≡ true)

-- there are no more relationships than a definition may have, and each number names what is there
pub record IsSound (d : Definition) : Type 0 where
  pub few : length (relationships_of d) ≤ most_relationships
  pub columns : Each (tables_of d) (λ i table. Each table.columns (λ j column. IsSoundRole d table i j column column.role))
  pub relationships : Each (relationships_of d) (IsSoundRelationship d)
  pub steps : Each (steps_of d) (λ k g. g.table < length (tables_of d))
