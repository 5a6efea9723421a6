-- Rows that were found, in the order in which they were.
use Rattle.std.specs.Prelude.{◌≡◌, ◌+◌, ◌⊎◌, true, IsTrue, List, [], ◌∷◌, ◌++◌, length, if◌then◌else◌}
use Rattle.std.specs.FinMap as map
use Rattle.std.specs.BTreeSet.{BTreeSet, contains}
use Rattle.dv_schema.specs.declared.relationship.Cascade.{Cascade}
use Rattle.dv_store.specs.declared.keys.RowKey.{RowKey}
use Rattle.dv_store.specs.Keys.{row_cmp}
use Rattle.dv_store.specs.World.{World, Rows}
use Rattle.dv_cascade.specs.Links.{allows}
use Rattle.dv_cascade.specs.Chains.{is_among, Reaches}

-- a set has the rows of a list
abbrev pub AreSame : List RowKey → BTreeSet RowKey → Type 0
AreSame rows set = (key : RowKey) → is_among rows key ≡ contains row_cmp set key

-- rows with one more, unless it is among them
abbrev pub with_row : List RowKey → RowKey → List RowKey
with_row rows key = if is_among rows key then rows else rows ++ key ∷ []

-- the rows of a store but for those that were found
abbrev pub without : Rows → List RowKey → Rows
without rows [] = rows
without rows (key ∷ keys) = without (map.remove rows key) keys

-- each row that was found is of the store, and was found once: so many are left
abbrev pub AreOf : Rows → List RowKey → Type 0
AreOf rows found = map.len (without rows found) + length found ≡ map.len rows

-- behind the rows found before, all rows of which something is so, and no others, were found
pub record Finds (rows : Rows) (IsOf : RowKey → Type 0) (old new : List RowKey) : Type 0 where
  pub later : List RowKey
  pub longer : new ≡ old ++ later
  pub found : (key : RowKey) → IsOf key → IsTrue (is_among new key)
  pub only : (key : RowKey) → IsTrue (is_among new key) → IsTrue (is_among old key) ⊎ IsOf key
  pub are_of : AreOf rows old → AreOf rows new

-- a child, where a cascade reaches it from a parent
pub record IsAllowed (w : World) (cascade : Cascade) (parent child key : RowKey) : Type 0 where
  pub is : key ≡ child
  pub allowed : allows w cascade parent child ≡ true

-- a row that is reached from one of those found first
pub record IsUnder (Link : RowKey → RowKey → Type 0) (first : List RowKey) (key : RowKey) : Type 0 where
  pub start : RowKey
  pub among : IsTrue (is_among first start)
  pub reached : Reaches Link start key
