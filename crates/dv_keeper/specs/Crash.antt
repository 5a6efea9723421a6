-- What a crash may leave of the cells that a keeper holds, as a property of maps of cells.
use Rattle.std.specs.Prelude.{◌⊎◌, ◌≡◌, Option, Some, option_map, IfSome}
use Rattle.dv_keeper.specs.Cells.{Cells}

-- a crash now leaves no cells that it couldn't leave before
abbrev pub AddsNone : (Cells → Type 0) → (Cells → Type 0) → Type 0
AddsNone old new = (cells : Cells) → new cells → old cells

-- a crash now leaves cells that it could leave before, or what a change makes of those that were told
abbrev pub AddsOne : (Cells → Cells) → Option Cells → (Cells → Type 0) → (Cells → Type 0)
    → Type 0
AddsOne change told old new = (cells : Cells) → new cells
    → old cells ⊎ (option_map change told ≡ Some cells)

-- a crash leaves the cells that are told and no others
abbrev pub LeavesOnly : Option Cells → (Cells → Type 0) → Type 0
LeavesOnly told leaves = IfSome told (λ held. (cells : Cells) → leaves cells → cells ≡ held)
