-- The status that each ending of a run is told by.
use Rattle.std.specs.Prelude.{ℕ, ◌==◌, ◌||◌, Bool}
use Rattle.dv_service.specs.declared.status.Ending.{Ending}
use Rattle.dv_service.specs.declared.status.Ending.TheVariants as ending
use Rattle.dv_service.specs.declared.status.Stop.{Stop}
use Rattle.dv_service.specs.declared.status.Stop.TheVariants as stop

-- whether a run may end with this number
unfoldable pub is_status : ℕ → Bool
is_status n = n == 0 || n == 2 || n == 3 || n == 5 || n == 6 || n == 9 || n == 10

-- the number of an ending
unfoldable pub code_of : Ending → ℕ
code_of ending.Done = 0
code_of ending.NotOpened = 3
code_of ending.ReadFault = 5
code_of ending.WriteFault = 6
code_of ending.OutOfMemory = 9
code_of ending.InputLimit = 10

-- the ending that a line makes
abbrev pub ending_of : Stop → Ending
ending_of stop.NotOpened = ending.NotOpened
ending_of stop.WriteFault = ending.WriteFault
ending_of stop.OutOfMemory = ending.OutOfMemory
