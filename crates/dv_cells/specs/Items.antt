-- The cell of each item: its sheet, its key and its value.
use Rattle.std.specs.Prelude.{⊤, ◌≡◌, ℕ, List, [], Option, MatchOption}
use Rattle.std.specs.Int.{to_be_bytes, w64}
use Rattle.dv_cells.specs.declared.item.Item.{Item}
use Rattle.dv_cells.specs.declared.item.Item.TheVariants.{Header, Line, Unit, User, Team, Member}
use Rattle.dv_cells.specs.declared.item.Item.TheVariants.{Role, Gift, Row, Grant, Removal, Dirty}
use Rattle.dv_cells.specs.Bytes.{id_bytes, pair_bytes, flagged_bytes, rights_bytes, header_bytes}
use Rattle.dv_cells.specs.Bytes.{row_bytes, grant_bytes, dirty_bytes, values_bytes, role_bytes}
use Rattle.dv_cells.specs.Bytes.{FitsId, FitsRights, FitsCounters, FitsRow, FitsGrant, FitsDirty}
use Rattle.dv_cells.specs.Bytes.{Fits64, AreEntries, AreSpelled, AreValues, Ascend}

-- the number of the item's sheet
unfoldable pub sheet_of : Item → ℕ
sheet_of (Header numbers) = 1
sheet_of (Line bytes) = 2
sheet_of (Unit id parent) = 3
sheet_of (User id unit enabled) = 4
sheet_of (Team id unit access) = 5
sheet_of (Member team user) = 6
sheet_of (Role id direct manage entries) = 7
sheet_of (Gift principal role) = 8
sheet_of (Row key row) = 9
sheet_of (Grant key direct inherited) = 10
sheet_of (Removal key version) = 11
sheet_of (Dirty key) = 12

-- the bytes of its key; a sheet of one cell has the empty key
unfoldable pub key_of : Item → List ℕ
key_of (Header numbers) = []
key_of (Line bytes) = []
key_of (Unit id parent) = id_bytes id
key_of (User id unit enabled) = id_bytes id
key_of (Team id unit access) = id_bytes id
key_of (Member team user) = pair_bytes (team, user)
key_of (Role id direct manage entries) = id_bytes id
key_of (Gift principal role) = pair_bytes (principal, role)
key_of (Row key row) = row_bytes key
key_of (Grant key direct inherited) = grant_bytes key
key_of (Removal key version) = row_bytes key
key_of (Dirty key) = dirty_bytes key

-- the bytes of its value
unfoldable pub value_of : Item → List ℕ
value_of (Header numbers) = header_bytes numbers
value_of (Line bytes) = bytes
value_of (Unit id parent) = id_bytes parent
value_of (User id unit enabled) = flagged_bytes (unit, enabled)
value_of (Team id unit access) = flagged_bytes (unit, access)
value_of (Member team user) = []
value_of (Role id direct manage entries) = role_bytes direct manage entries
value_of (Gift principal role) = []
value_of (Row key row) = values_bytes row.values
value_of (Grant key direct inherited) = rights_bytes (direct, inherited)
value_of (Removal key version) = to_be_bytes w64 version
value_of (Dirty key) = []

-- what holds of each item of a program: its numbers lie in their types
unfoldable pub IsItem : Item → Type 0
IsItem (Header numbers) = FitsCounters numbers
IsItem (Line bytes) = ⊤
IsItem (Unit id parent) = FitsId id × FitsId parent
IsItem (User id unit enabled) = FitsId id × FitsId unit
IsItem (Team id unit access) = FitsId id × FitsId unit
IsItem (Member team user) = FitsId team × FitsId user
IsItem (Role id direct manage entries) = FitsId id × AreEntries entries
IsItem (Gift principal role) = FitsId principal × FitsId role
IsItem (Row key row) = FitsRow key × AreValues row.values
IsItem (Grant key direct inherited) = FitsGrant key × FitsRights (direct, inherited)
IsItem (Removal key version) = FitsRow key × Fits64 version
IsItem (Dirty key) = FitsDirty key

-- an item has a cell where the values of its row have spellings, and its role isn't the nil one
-- and has its entries in order
unfoldable pub HasCell : Item → Type 0
HasCell (Role id direct manage entries) = (id.0 ≡ 0 → ⊥) × Ascend entries
HasCell (Row key row) = AreSpelled row.values
HasCell item = ⊤

-- a sheet, a key and a value are those of an item
pub record IsCellOf (sheet : ℕ) (key value : List ℕ) (item : Item) : Type 0 where
  pub is_item : IsItem item
  pub has_cell : HasCell item
  pub sheet_is : sheet ≡ sheet_of item
  pub key_is : key ≡ key_of item
  pub value_is : value ≡ value_of item

-- the item of a cell was found, or there is none
abbrev pub Finds : ℕ → List ℕ → List ℕ → Option Item → Type 0
Finds sheet key value result =
    MatchOption result ((item : Item) → IsCellOf sheet key value item → ⊥)
    (IsCellOf sheet key value)
