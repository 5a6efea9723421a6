-- The first line begins an organisation, or is refused as a definition.
use Rattle.std.specs.Prelude.{◌≡◌, ℕ, Bool, true, false, List, [], Some, None, Ok, codes}
use Rattle.std.specs.List.{list_any}
use Rattle.dv_schema.specs.declared.definition.Definition.{Definition}
use Rattle.dv_schema.specs.declared.fault.DefFault.TheVariants.{Bad}
use Rattle.dv_schema.specs.declared.fault.DefKind.{DefKind}
use Rattle.dv_schema.specs.declared.fault.DefKind.TheVariants.{NotJson, UnknownField, BadForm, Limit, NameTaken, UnknownName, BadCascade, OwnershipClash, SecondParent, BadRollup, UnknownStep, BadDirectory}
use Rattle.dv_schema.specs.declared.table.ColumnRole.{ColumnRole}
use Rattle.dv_schema.specs.declared.table.ColumnRole.TheVariants as role
use Rattle.dv_schema.specs.declared.table.Table.{Table}
use Rattle.dv_schema.specs.Definitions.{tables_of}
use Rattle.dv_meta.specs.Reader.{IsAccepted, first_fault_of}
use Rattle.dv_roles.specs.Beginning.{beginning}
use Rattle.dv_roles.specs.State.{State}
use Rattle.dv_store.specs.World.{empty}
use Rattle.dv_service.specs.Lines.{within_limit}
use Rattle.dv_service.specs.Organisations.{Organisation}

-- the word for what is wrong with a definition
unfoldable pub kind_word : DefKind → List ℕ
kind_word NotJson = codes "NotJson"
kind_word UnknownField = codes "UnknownField"
kind_word BadForm = codes "BadForm"
kind_word Limit = codes "Limit"
kind_word NameTaken = codes "NameTaken"
kind_word UnknownName = codes "UnknownName"
kind_word BadCascade = codes "BadCascade"
kind_word OwnershipClash = codes "OwnershipClash"
kind_word SecondParent = codes "SecondParent"
kind_word BadRollup = codes "BadRollup"
kind_word UnknownStep = codes "UnknownStep"
kind_word BadDirectory = codes "BadDirectory"

-- whether a column is a rollup, which isn't built yet
unfoldable pub is_later : ColumnRole → Bool
is_later (role.Rollup rollup) = true
is_later (role.Lookup relationship) = false
is_later role.System = false
is_later role.Plain = false
is_later role.Companion = false

abbrev pub has_later_column : Table → Bool
has_later_column table = list_any (λ column. is_later column.role) table.columns

-- whether a definition has a rollup anywhere
unfoldable pub has_later : Definition → Bool
has_later definition = list_any has_later_column (tables_of definition)

-- the organisation that a definition begins, in which nothing was done
abbrev pub begun : Definition → State → Organisation
begun definition directory = record { definition = definition; directory = directory; world = empty definition }

-- the line begins this organisation: it is an accepted definition without rollups
pub record Begins (line : List ℕ) (org : Organisation) : Type 0 where
  pub bytes : List ℕ
  pub short : within_limit line ≡ Some bytes
  pub accepted : IsAccepted bytes 0 org.definition
  pub built : has_later org.definition ≡ false
  pub directory : beginning org.definition ≡ Ok org.directory
  pub begun : org ≡ begun org.definition org.directory

-- The line is refused as a definition, with this kind and place: it is too long; or it has a first fault; or it is an
-- accepted definition with a rollup.
pub data Declines (line kind place : List ℕ) : Type 0 where
  long : within_limit line ≡ None → kind ≡ codes "NotJson" → place ≡ [] → Declines line kind place
  faulty : (bytes : List ℕ) (fault : DefKind) → within_limit line ≡ Some bytes → first_fault_of bytes 0 ≡ Some (Bad fault place) → kind ≡ kind_word fault → Declines line kind place
  later : (bytes : List ℕ) (definition : Definition) → within_limit line ≡ Some bytes → IsAccepted bytes 0 definition → has_later definition ≡ true → kind ≡ codes "NotBuilt" → place ≡ [] → Declines line kind place
