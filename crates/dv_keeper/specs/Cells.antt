-- A map of cells, what changes make of it, and the cell that comes next in it.
use Rattle.std.specs.Prelude.{⊤, ◌≡◌, ◌==◌, ◌&&◌, if◌then◌else◌, ℕ, List, [], ◌∷◌, bytes_eq}
use Rattle.std.specs.Prelude.{Option, None, Some}
use Rattle.std.specs.Ordering.{nat_cmp}
use Rattle.std.specs.Cmp.Lexicographic.{slice_cmp}
use Rattle.std.specs.declared.cmp.Ordering.TheVariants.{Less}
use Rattle.dv_keeper.specs.declared.cell.Cell.{Cell}
use Rattle.dv_keeper.specs.declared.cell.Change.{Change}
use Rattle.dv_keeper.specs.declared.cell.Change.TheVariants.{Put, Take}

-- the value at a sheet and a key, if the cell is there
abbrev pub Cells : Type 0
Cells = ℕ → List ℕ → Option (List ℕ)

-- no cell at all
abbrev pub no_cells : Cells
no_cells sheet key = None

-- another value at one sheet and key, or none
abbrev pub with_cell : ℕ → List ℕ → Option (List ℕ) → Cells → Cells
with_cell s k value cells sheet key =
    if (sheet == s) && bytes_eq key k then value else cells sheet key

-- the cells after one change
abbrev pub changed : Change → Cells → Cells
changed (Put s k value) cells = with_cell s k (Some value) cells
changed (Take s k) cells = with_cell s k None cells

-- the cells after these changes, of which the first is made first
abbrev pub all_changed : List Change → Cells → Cells
all_changed [] cells = cells
all_changed (change ∷ more) cells = all_changed more (changed change cells)

-- the same cells
abbrev pub same : Cells → Cells
same cells = cells

-- one key comes before another in byte order
abbrev pub Precedes : List ℕ → List ℕ → Type 0
Precedes k l = slice_cmp nat_cmp k l ≡ Less

-- a key comes after a given one; where none is given, each key does
abbrev pub Follows : Option (List ℕ) → List ℕ → Type 0
Follows None k = ⊤
Follows (Some after) k = Precedes after k

-- a cell is there, its key follows, and no cell of the sheet that follows comes before it
pub record IsLeast (cells : Cells) (sheet : ℕ) (after : Option (List ℕ)) (cell : Cell) : Type 0 where
  pub follows : Follows after cell.key
  pub there : cells sheet cell.key ≡ Some cell.value
  pub least : (k : List ℕ) → Follows after k → Precedes k cell.key → cells sheet k ≡ None

-- the cell of the least key that follows, or none where no cell of the sheet does
abbrev pub IsNext : Cells → ℕ → Option (List ℕ) → Option Cell → Type 0
IsNext cells sheet after None = (k : List ℕ) → Follows after k → cells sheet k ≡ None
IsNext cells sheet after (Some cell) = IsLeast cells sheet after cell
