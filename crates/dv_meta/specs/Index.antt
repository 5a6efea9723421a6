-- Invariants of the code, and no rules of a definition: what an index has for each name, its first place.
use Rattle.std.specs.Prelude.{◌≡◌, ◌≤◌, ◌&&◌, ◌++◌, ℕ, Bool, false, List, [], ◌∷◌, length, Option, Some, None, if◌then◌else◌, slice_get}
use Rattle.std.specs.List.{list_any}
use Rattle.std.specs.Option.{option_or}
use Rattle.dv_schema.specs.declared.draft.Draft.{Draft}
use Rattle.dv_schema.specs.declared.draft.DraftRelationship.{DraftRelationship}
use Rattle.dv_schema.specs.declared.draft.DraftTable.{DraftTable}
use Rattle.dv_schema.specs.declared.place.Place.{Place}
use Rattle.dv_meta.specs.declared.index.table_columns.Columns.{Columns}
use Rattle.dv_meta.specs.declared.index.Index.{Index}
use Rattle.dv_meta.specs.declared.index.names.Lookups.{Lookups}
use Rattle.dv_meta.specs.declared.index.names.Numbers.{Numbers}
use Rattle.dv_meta.specs.Columns.{column_names, own_names}
use Rattle.dv_meta.specs.NameTaken.{taken_at_table}
use Rattle.dv_meta.specs.Named.{table_names, relationship_names, lookup_number, lookup_of}
use Rattle.dv_meta.specs.Relations.{parental_of}
use Rattle.dv_schema.specs.Names.{Name, same_name, place_of, stands_before}
use Rattle.dv_meta.specs.Numbers.{number_in, lookup_in}

-- the numbers of names are their first places in a list
abbrev pub Finds : Numbers → List Name → Type 0
Finds numbers names = (name : Name) → number_in numbers name ≡ place_of names name

-- the columns of a table are found, all of them and its own, of which there are at most 60
pub record FindsColumns (columns : Columns) (table : DraftTable) : Type 0 where
  pub all : Finds columns.all (column_names table)
  pub own : Finds columns.own (own_names table)
  pub few : length table.columns ≤ 60

-- the columns of each table are found
unfoldable pub FindsEach : List Columns → List DraftTable → Type 0
FindsEach [] [] = Unit {0}
FindsEach [] (t ∷ ts) = ⊥
FindsEach (c ∷ cs) [] = ⊥
FindsEach (c ∷ cs) (t ∷ ts) = FindsColumns c t × FindsEach cs ts

-- each name of a definition is found
pub record IsIndexOf (draft : Draft) (index : Index) : Type 0 where
  pub tables : Finds index.tables (table_names draft.tables)
  pub relationships : Finds index.relationships (relationship_names draft.relationships)
  pub lookups : (table name : Name) → lookup_in index.lookups table name ≡ lookup_number draft table name
  pub columns : FindsEach index.columns.items draft.tables

-- after a name is added where a test holds: the first number of a name counts
abbrev pub AddsIf : Bool → Numbers → Numbers → Name → ℕ → Type 0
AddsIf test old new name k = (q : Name) → number_in new q ≡ option_or (number_in old q) (if test && same_name q name then Some k else None)

-- after a name is added
abbrev pub Adds : Numbers → Numbers → Name → ℕ → Type 0
Adds old new name k = (q : Name) → number_in new q ≡ option_or (number_in old q) (if same_name q name then Some k else None)

-- after a lookup is added
abbrev pub AddsLookup : Lookups → Lookups → Name → Name → ℕ → Type 0
AddsLookup old new table name k = (t q : Name) → lookup_in new t q ≡ option_or (lookup_in old t q) (if same_name t table && same_name q name then Some k else None)

-- after a table's lookups are taken out, those of the others are as before
abbrev pub KeepsOthers : Lookups → Lookups → Name → Type 0
KeepsOthers old new table = (t q : Name) → same_name t table ≡ false → lookup_in new t q ≡ lookup_in old t q

-- the relationship of each lookup is found
abbrev pub FindsLookups : Lookups → List DraftRelationship → Type 0
FindsLookups lookups relationships = (table name : Name) → lookup_in lookups table name ≡ lookup_of relationships table name

-- the first parental relationship of each child is found
abbrev pub FindsParents : Numbers → List DraftRelationship → Type 0
FindsParents numbers relationships = (child : Name) → number_in numbers child ≡ parental_of relationships child

-- more names are found behind those before
abbrev pub FindsMore : Numbers → Numbers → ℕ → List Name → Type 0
FindsMore old new count more = (names : List Name) → length names ≡ count → Finds old names → Finds new (names ++ more)

-- whether one of some names stands before a place, by the numbers of a list
abbrev pub TellsBefore : Numbers → ℕ → List Name → Bool → Type 0
TellsBefore numbers place some b = (names : List Name) → Finds numbers names → b ≡ list_any (stands_before names place) some

-- no table has more columns than a table may
abbrev pub HaveFewColumns : List DraftTable → Type 0
HaveFewColumns tables = (i : ℕ) (table : DraftTable) → slice_get tables i ≡ Some table → length table.columns ≤ 60

-- what is taken at the table of a number
abbrev pub IsTakenAt : Draft → ℕ → Option Place → Type 0
IsTakenAt draft i place = (table : DraftTable) → slice_get draft.tables i ≡ Some table → place ≡ taken_at_table draft i table
