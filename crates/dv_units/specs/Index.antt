-- What the code keeps of the chart: its lists, and the members a second time in the order of the users.
use Rattle.std.specs.Prelude.{◌≡◌, List}
use Rattle.dv_value.specs.declared.id.Id.{Id}
use Rattle.dv_units.specs.declared.seats.User.{User}
use Rattle.dv_units.specs.declared.seats.Team.{Team}
use Rattle.dv_units.specs.Chart.{Chart, has}
use Rattle.dv_units.specs.Rules.{IsChart}

-- the chart of the lists
abbrev pub chart_of : List (Id × Id) → List (Id × User) → List (Id × Team) → List (Id × Id) → Chart
chart_of units users teams members = record { units = units; users = users; teams = teams; members = members }

-- the second list has the pairs of the first with their parts changed about
abbrev pub AreTurned : List (Id × Id) → List (Id × Id) → Type 0
AreTurned pairs turned = (first second : Id) → has turned (second, first) ≡ has pairs (first, second)

-- the rules of a chart hold, and the second list has the pairs of the first, as user and team
pub record IsWhole (chart : Chart) (joined : List (Id × Id)) : Type 0 where
  pub rules : IsChart chart
  pub turned : AreTurned chart.members joined
