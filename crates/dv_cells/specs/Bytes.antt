-- What the parts of keys and values are in bytes. Numbers are big-endian.
use Rattle.std.specs.Prelude.{⊤, ◌≡◌, ℕ, ◌<◌, ◌^◌, Bool, List, [], ◌∷◌, ◌++◌, Option, MatchOption}
use Rattle.std.specs.Int.{to_be_bytes, from_bool, w16, w32, w64, w128}
use Rattle.dv_value.specs.declared.id.Id.{Id}
use Rattle.dv_value.specs.declared.value.Value.{Value}
use Rattle.dv_value.specs.Spelling.{spelling_of, HasSpelling, IsValue}
use Rattle.std.specs.Ordering.{nat_cmp, ordering_then}
use Rattle.std.specs.declared.cmp.Ordering.TheVariants.{Less}
use Rattle.dv_roles.specs.Actions.{number_of}
use Rattle.dv_roles.specs.declared.role.RoleEntry.{RoleEntry}
use Rattle.dv_store.specs.declared.keys.RowKey.{RowKey}
use Rattle.dv_store.specs.declared.keys.GrantKey.{GrantKey}
use Rattle.dv_store.specs.declared.keys.DirtyKey.{DirtyKey}
use Rattle.dv_store.specs.declared.numbers.Numbers.{Numbers}

-- an id has 16 bytes
abbrev pub id_bytes : Id → List ℕ
id_bytes id = to_be_bytes w128 id.0

-- two ids, one after the other
abbrev pub pair_bytes : Id × Id → List ℕ
pair_bytes pair = id_bytes pair.0 ++ id_bytes pair.1

-- a truth value has one byte, 0 or 1
abbrev pub flag_bytes : Bool → List ℕ
flag_bytes flag = from_bool flag ∷ []

-- a row's table has two bytes, and then comes its id
abbrev pub row_bytes : RowKey → List ℕ
row_bytes key = to_be_bytes w16 key.table ++ id_bytes key.id

-- a grant's row and its principal
abbrev pub grant_bytes : GrantKey → List ℕ
grant_bytes key = row_bytes key.row ++ id_bytes key.principal

-- a rollup's row, and two bytes for its column
abbrev pub dirty_bytes : DirtyKey → List ℕ
dirty_bytes key = row_bytes key.row ++ to_be_bytes w16 key.column

-- an id and a truth value
abbrev pub flagged_bytes : Id × Bool → List ℕ
flagged_bytes pair = id_bytes pair.0 ++ flag_bytes pair.1

-- direct and inherited rights, four bytes each
abbrev pub rights_bytes : ℕ × ℕ → List ℕ
rights_bytes rights = to_be_bytes w32 rights.0 ++ to_be_bytes w32 rights.1

-- the version counter, the id counter and the floor, eight bytes each
abbrev pub counters_bytes : Numbers → List ℕ
counters_bytes numbers = to_be_bytes w64 numbers.version
    ++ (to_be_bytes w64 numbers.last_id ++ to_be_bytes w64 numbers.floor)

-- the spellings of values, one after the other
unfoldable pub values_bytes : List Value → List ℕ
values_bytes [] = []
values_bytes (value ∷ more) = spelling_of value ++ values_bytes more

-- an entry of a role: its action's number, its table in two bytes, and its depth
abbrev pub entry_bytes : RoleEntry → List ℕ
entry_bytes entry = number_of entry.action ∷ to_be_bytes w16 entry.table ++ entry.depth ∷ []

-- entries, one after the other
unfoldable pub entries_bytes : List RoleEntry → List ℕ
entries_bytes [] = []
entries_bytes (entry ∷ more) = entry_bytes entry ++ entries_bytes more

-- a role's two truth values, and then its entries
abbrev pub role_bytes : Bool → Bool → List RoleEntry → List ℕ
role_bytes direct manage entries = from_bool direct ∷ from_bool manage ∷ entries_bytes entries

-- the number of this layout in four bytes, and then the counters
abbrev pub header_bytes : Numbers → List ℕ
header_bytes numbers = to_be_bytes w32 1 ++ counters_bytes numbers

-- ---- numbers that lie in their types

abbrev pub Fits16 : ℕ → Type 0
Fits16 number = number < 2 ^ 16

abbrev pub Fits32 : ℕ → Type 0
Fits32 number = number < 2 ^ 32

abbrev pub Fits64 : ℕ → Type 0
Fits64 number = number < 2 ^ 64

abbrev pub FitsId : Id → Type 0
FitsId id = id.0 < 2 ^ 128

abbrev pub FitsPair : Id × Id → Type 0
FitsPair pair = FitsId pair.0 × FitsId pair.1

abbrev pub FitsRow : RowKey → Type 0
FitsRow key = Fits16 key.table × FitsId key.id

abbrev pub FitsGrant : GrantKey → Type 0
FitsGrant key = FitsRow key.row × FitsId key.principal

abbrev pub FitsDirty : DirtyKey → Type 0
FitsDirty key = FitsRow key.row × Fits16 key.column

-- each truth value is one
abbrev pub IsFlag : Bool → Type 0
IsFlag flag = ⊤

abbrev pub FitsFlagged : Id × Bool → Type 0
FitsFlagged pair = FitsId pair.0 × IsFlag pair.1

abbrev pub FitsRights : ℕ × ℕ → Type 0
FitsRights rights = Fits32 rights.0 × Fits32 rights.1

abbrev pub FitsCounters : Numbers → Type 0
FitsCounters numbers = Fits64 numbers.version × (Fits64 numbers.last_id × Fits64 numbers.floor)

-- each of these is a value of a program
unfoldable pub AreValues : List Value → Type 0
AreValues [] = ⊤
AreValues (value ∷ more) = IsValue value × AreValues more

-- each of these has a spelling
unfoldable pub AreSpelled : List Value → Type 0
AreSpelled [] = ⊤
AreSpelled (value ∷ more) = HasSpelling value × AreSpelled more

-- the bytes are those of these values
pub record IsSpelledAs (bytes : List ℕ) (values : List Value) : Type 0 where
  pub are_values : AreValues values
  pub are_spelled : AreSpelled values
  pub bytes_are : bytes ≡ values_bytes values

abbrev pub FitsEntry : RoleEntry → Type 0
FitsEntry entry = Fits16 entry.table × (entry.depth < 256)

-- each of these is an entry of a program
unfoldable pub AreEntries : List RoleEntry → Type 0
AreEntries [] = ⊤
AreEntries (entry ∷ more) = FitsEntry entry × AreEntries more

-- one entry comes before another: by action, and then by table
abbrev pub ComesBefore : RoleEntry → RoleEntry → Type 0
ComesBefore a b = ordering_then (nat_cmp (number_of a.action) (number_of b.action))
    (nat_cmp a.table b.table) ≡ Less

-- an entry comes before the first of these, if there is one
abbrev pub BeginsAfter : RoleEntry → List RoleEntry → Type 0
BeginsAfter entry [] = ⊤
BeginsAfter entry (next ∷ more) = ComesBefore entry next

-- each entry comes before the next one, so that there is at most one for each action and table
unfoldable pub Ascend : List RoleEntry → Type 0
Ascend [] = ⊤
Ascend (entry ∷ more) = BeginsAfter entry more × Ascend more

-- the bytes are those of these entries
pub record IsListOf (bytes : List ℕ) (entries : List RoleEntry) : Type 0 where
  pub are_entries : AreEntries entries
  pub bytes_are : bytes ≡ entries_bytes entries

-- the bytes are those of what was read; nothing was read where they aren't those of anything
abbrev pub Reads : {A : Type 0} → (A → List ℕ) → (A → Type 0) → List ℕ → Option A → Type 0
Reads {A} spell Fits bytes result =
    MatchOption result ((a : A) → Fits a → bytes ≡ spell a → ⊥) (λ a. Fits a × (bytes ≡ spell a))
