-- What the names of an accepted text name: each is there, so that no number in the definition is the 0 of a name that
-- is missing. Later rules may rest on these facts.
use Rattle.std.specs.Prelude.{◌≡◌, ◌<◌, ◌==◌, ◌||◌, ℕ, true, false, List, length, Option, Some, option_map, is_some}
use Rattle.dv_value.specs.declared.id.Id.{Id}
use Rattle.dv_schema.specs.declared.draft.Draft.{Draft}
use Rattle.dv_schema.specs.declared.draft.DraftColumn.{DraftColumn}
use Rattle.dv_schema.specs.declared.draft.DraftForm.{DraftForm}
use Rattle.dv_schema.specs.declared.draft.DraftForm.TheVariants.{Plain, Lookup, Rollup}
use Rattle.dv_schema.specs.declared.draft.DraftRegistration.{DraftRegistration}
use Rattle.dv_schema.specs.declared.draft.DraftRelationship.{DraftRelationship}
use Rattle.dv_schema.specs.declared.draft.DraftRollup.{DraftRollup}
use Rattle.dv_schema.specs.declared.draft.DraftTable.{DraftTable}
use Rattle.dv_schema.specs.declared.opening.Entry.{Entry}
use Rattle.dv_schema.specs.declared.opening.Opening.{Opening}
use Rattle.dv_schema.specs.declared.opening.OpeningTeam.{OpeningTeam}
use Rattle.dv_schema.specs.declared.opening.OpeningUnit.{OpeningUnit}
use Rattle.dv_schema.specs.declared.opening.OpeningUser.{OpeningUser}
use Rattle.dv_schema.specs.Names.{Name, place_of}
use Rattle.dv_schema.specs.Sound.{Each}
use Rattle.dv_opening.specs.Directory.{Directory}
use Rattle.dv_opening.specs.Opening.{made}
use Rattle.dv_meta.specs.Accepted.{number_of, number_in_table, source_number}
use Rattle.dv_meta.specs.Named.{table_names, relationship_names, table_named, column_named, lookup_number}
use Rattle.dv_meta.specs.Relations.{empties_required, clashes, is_parental, parental_of}
use Rattle.dv_meta.specs.Rollups.{goes_over, source_suits}
use Rattle.dv_meta.specs.UnknownName.{source_of, given_unknown, names_unknown}

-- a name was found, and its number is the one that stands in the definition
abbrev pub IsFound : Option ℕ → Type 0
IsFound found = found ≡ Some (number_of found)

-- a table of the name is there
abbrev pub IsTable : Draft → Name → Type 0
IsTable draft name = IsFound (place_of (table_names draft.tables) name)

-- a relationship joins two tables that are there by a lookup of the child, which has this relationship and no other;
-- a parental one is the only one of its child
pub record IsResolvedRelationship (draft : Draft) (k : ℕ) (r : DraftRelationship) : Type 0 where
  pub parent : IsTable draft r.parent
  pub child : IsTable draft r.child
  pub column : IsFound (number_in_table draft r.child r.column)
  pub lookup : option_map (λ column. column.form) (column_named draft r.child r.column) ≡ Some Lookup
  pub owns : lookup_number draft r.child r.column ≡ Some k
  pub only_parent : is_parental r ≡ true → parental_of draft.relationships r.child ≡ Some k
  pub has_owners : clashes draft r ≡ false
  pub leaves_required : empties_required draft r ≡ false

-- a rollup goes over a relationship whose parent is its own table, takes a column that is there and can be calculated,
-- and is never required
pub record IsCalculable (draft : Draft) (table : DraftTable) (column : DraftColumn) (rollup : DraftRollup) : Type 0 where
  pub over : IsFound (place_of (relationship_names draft.relationships) rollup.over)
  pub parent : goes_over draft table.name rollup ≡ true
  pub child : is_some (source_of draft rollup) ≡ true
  pub of : (name : Name) → rollup.of ≡ Some name → IsFound (source_number draft rollup)
  pub suits : source_suits draft rollup ≡ true
  pub optional : column.required ≡ false

-- a lookup has its relationship, and a rollup can be calculated
abbrev pub IsResolvedForm : Draft → DraftTable → DraftColumn → DraftForm → Type 0
IsResolvedForm draft table column (Plain kind) = Unit {0}
IsResolvedForm draft table column Lookup = IsFound (lookup_number draft table.name column.name)
IsResolvedForm draft table column (Rollup rollup) = IsCalculable draft table column rollup

abbrev pub IsResolvedColumn : Draft → DraftTable → DraftColumn → Type 0
IsResolvedColumn draft table column = IsResolvedForm draft table column column.form

-- a registration is of a step that the program has and of a table that is there, and names columns of that table
pub record IsResolvedRegistration (draft : Draft) (steps : ℕ) (g : DraftRegistration) : Type 0 where
  pub step : g.step < steps
  pub table : IsTable draft g.table
  pub columns : (t : DraftTable) → table_named draft g.table ≡ Some t → given_unknown t g.columns ≡ false
  pub pre : (t : DraftTable) → table_named draft g.table ≡ Some t → names_unknown t g.pre ≡ false
  pub post : (t : DraftTable) → table_named draft g.table ≡ Some t → names_unknown t g.post ≡ false

-- a privilege on one table is on a table that is there
abbrev pub IsResolvedEntry : Draft → Entry → Type 0
IsResolvedEntry draft entry = (name : Name) → entry.table ≡ Some name → IsTable draft name

-- the whole opening directory
abbrev pub whole : Opening → Directory
whole o = made o (length o.units) (length o.users) (length o.teams) (length o.roles)

-- each role that is given is the System Administrator or a role of the directory
abbrev pub AreRoles : Opening → List Id → Type 0
AreRoles o roles = Each roles (λ j role. ((role.0 == 0) || (whole o).is_role role.0) ≡ true)

-- each member is a user of the directory
abbrev pub AreUsers : Opening → List Id → Type 0
AreUsers o members = Each members (λ j user. (whole o).is_user user.0 ≡ true)

-- a unit stands under the root or a unit before it
abbrev pub IsResolvedUnit : Opening → ℕ → OpeningUnit → Type 0
IsResolvedUnit o k unit = (made o k 0 0 0).is_unit unit.parent.0 ≡ true

pub record IsResolvedUser (o : Opening) (user : OpeningUser) : Type 0 where
  pub unit : (whole o).is_unit user.unit.0 ≡ true
  pub roles : AreRoles o user.roles

pub record IsResolvedTeam (o : Opening) (team : OpeningTeam) : Type 0 where
  pub unit : (whole o).is_unit team.unit.0 ≡ true
  pub members : AreUsers o team.members
  pub roles : AreRoles o team.roles

-- what each part of a text names is there
pub record IsResolved (draft : Draft) (steps : ℕ) : Type 0 where
  pub relationships : Each draft.relationships (IsResolvedRelationship draft)
  pub columns : Each draft.tables (λ i table. Each table.columns (λ j column. IsResolvedColumn draft table column))
  pub registrations : Each draft.steps (λ k g. IsResolvedRegistration draft steps g)
  pub entries : Each draft.opening.roles (λ k role. Each role.entries (λ j entry. IsResolvedEntry draft entry))
  pub units : Each draft.opening.units (IsResolvedUnit draft.opening)
  pub users : Each draft.opening.users (λ k user. IsResolvedUser draft.opening user)
  pub teams : Each draft.opening.teams (λ k team. IsResolvedTeam draft.opening team)
