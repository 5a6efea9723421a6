-- The chart of a directory, lent to be changed.
use Rattle.std.specs.Borrow.{Lends, MutBor, Fml}
use Rattle.dv_units.specs.Chart.{Chart}
use Rattle.dv_units.specs.contracts.units.Units.{the_row as units_row}
use Rattle.dv_roles.specs.contracts.directory.Directory.{the_row as directory_row}
use Rattle.dv_roles.specs.State.{State, with_chart}

-- a directory ends with the chart that is left behind the reference, and all else as it was
abbrev pub LendsChart : MutBor State → MutBor Chart → Fml
LendsChart d chart = Lends directory_row units_row d chart (with_chart d.now)
