-- A keeper in memory tells all that it holds, and fails where it was told to.
use Rattle.std.specs.Prelude.{⊤, Bool, ◌==◌, if◌then◌else◌, ℕ, List, [], ◌∷◌, bytes_eq}
use Rattle.std.specs.Prelude.{Option, None, Some, IsSome}
use Rattle.std.specs.Ordering.{nat_cmp}
use Rattle.std.specs.declared.ops.Bound.{Bound}
use Rattle.std.specs.declared.ops.Bound.TheVariants.{Included, Excluded}
use Rattle.std.specs.Cmp.Lexicographic.{slice_cmp}
use Rattle.std.specs.Map.{lookup}
use Rattle.std.specs.BTreeMap.{is_at}
use Rattle.dv_keeper.specs.Cells.{Cells}
use Rattle.dv_keeper.specs.Keepers.{KeeperState}
use Rattle.dv_keeper.specs.declared.cell.Change.{Change}
use Rattle.dv_keeper.specs.declared.cell.Change.TheVariants.{Put, Take}
use Rattle.dv_keeper.specs.declared.writing.Write.{Write}

-- places of cells by their addresses, some of them empty
abbrev pub Places : Type 0
Places = List (List ℕ × Option (List ℕ))

-- A keeper in memory, which contracts see as these six.
pub record KeeperInMemory : Type 0 where
  pub is_open : Bool
  -- the bytes of the path that it was last opened at, if there was one
  pub place : Option (List ℕ)
  -- the places of the cells that it holds
  pub places : Places
  -- the call of `next_after` that is to fail, counted from the next one as 1; at 0 none is
  pub failing_next_after : ℕ
  -- the same of `apply`
  pub failing_apply : ℕ
  -- how often it failed
  pub faults : ℕ

-- the address of a cell: the byte of its sheet, and then its key
abbrev pub address : ℕ → List ℕ → List ℕ
address sheet key = sheet ∷ key

-- the key at an address, where it is of a sheet
abbrev pub key_in : ℕ → List ℕ → Option (List ℕ)
key_in sheet [] = None
key_in sheet (first ∷ key) = if first == sheet then Some key else None

-- where the cells of a sheet after a key begin; where no key is given, where the sheet begins
abbrev pub start_after : ℕ → Option (List ℕ) → Bound (List ℕ)
start_after sheet None = Included (address sheet [])
start_after sheet (Some key) = Excluded (address sheet key)

-- the value in a place, which may be missing or empty
abbrev pub value_in : Option (Option (List ℕ)) → Option (List ℕ)
value_in None = None
value_in (Some place) = place

-- the place at an address
abbrev pub place_at : List ℕ → Places → Option (Option (List ℕ))
place_at at places = lookup (is_at (slice_cmp nat_cmp at)) places

-- the cells in the places that aren't empty
abbrev pub held_in : Places → Cells
held_in places sheet key = value_in (place_at (address sheet key) places)

-- the cells that a keeper in memory holds
abbrev pub cells_of : KeeperInMemory → Cells
cells_of s = held_in s.places

-- what it tells as a keeper
abbrev pub state_of : KeeperInMemory → KeeperState
state_of s = record {
  is_open = s.is_open;
  place = s.place;
  told = Some (cells_of s);
  faults = s.faults;
}

-- an entry in front of what comes after it, where its place isn't empty
abbrev pub or_first : List ℕ → Option (List ℕ) → Option (List ℕ × List ℕ)
    → Option (List ℕ × List ℕ)
or_first at None rest = rest
or_first at (Some value) rest = Some (at, value)

-- the first of the places that isn't empty
abbrev pub first_full : Places → Option (List ℕ × List ℕ)
first_full [] = None
first_full (place ∷ more) = or_first place.0 place.1 (first_full more)

-- what a change writes, and where
abbrev pub write_of : Change → Write
write_of (Put sheet key value) = record { address = address sheet key; value = Some value }
write_of (Take sheet key) = record { address = address sheet key; value = None }

-- the cells after a write
abbrev pub written : Write → Cells → Cells
written write cells sheet key =
    if bytes_eq (address sheet key) write.address then write.value else cells sheet key

-- the cells after these writes, of which the first is made first
abbrev pub all_written : List Write → Cells → Cells
all_written [] cells = cells
all_written (write ∷ more) cells = all_written more (written write cells)

-- there is a place for each of these writes
abbrev pub HavePlaces : Places → List Write → Type 0
HavePlaces places [] = ⊤
HavePlaces places (write ∷ more) = IsSome (place_at write.address places) × HavePlaces places more
