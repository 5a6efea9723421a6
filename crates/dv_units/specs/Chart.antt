-- The organisation chart: business units under one another, users and teams that belong to units, and who is a member
-- of which team. The default team of a unit has the unit's id and isn't listed.
use Rattle.std.specs.Prelude.{Bool, List, [], ◌∷◌, Option, ◌==◌, ◌||◌, is_some}
use Rattle.std.specs.List.{list_any}
use Rattle.std.specs.declared.cmp.Ordering.{Ordering}
use Rattle.std.specs.Ordering.{nat_cmp, ordering_then}
use Rattle.std.specs.Map.{lookup}
use Rattle.std.specs.Set.{remove_key}
use Rattle.std.specs.BTreeMap.{insert_entry, is_at}
use Rattle.std.specs.BTreeSet.{insert_key}
use Rattle.dv_value.specs.declared.id.Id.{Id}
use Rattle.dv_units.specs.declared.seats.User.{User}
use Rattle.dv_units.specs.declared.seats.Team.{Team}

-- units with their parents, the root with itself; users and further teams; members as pairs of team and user
pub record Chart : Type 0 where
  pub units : List (Id × Id)
  pub users : List (Id × User)
  pub teams : List (Id × Team)
  pub members : List (Id × Id)

-- one unit, the root, and nobody in it
abbrev pub root_alone : Id → Chart
root_alone root = record { units = (root, root) ∷ []; users = []; teams = []; members = [] }

-- what a list keeps at an id
abbrev pub at : {V : Type 0} → List (Id × V) → Id → Option V
at es id = lookup (λ k. id.0 == k.0) es

-- the list with a value put at an id, in ascending order of ids; a value that is there is replaced
abbrev pub put : {V : Type 0} → List (Id × V) → Id → V → List (Id × V)
put es id v = insert_entry (λ a b. nat_cmp a.0 b.0) es id v

-- pairs of ids ascend by the first, then by the second
abbrev pub pair_cmp : Id × Id → Id × Id → Ordering
pair_cmp x y = ordering_then (nat_cmp x.0.0 y.0.0) (nat_cmp x.1.0 y.1.0)

-- whether a list has a pair
abbrev pub has : List (Id × Id) → Id × Id → Bool
has pairs pair = list_any (is_at (pair_cmp pair)) pairs

-- the list with a pair, in ascending order
abbrev pub with_pair : List (Id × Id) → Id × Id → List (Id × Id)
with_pair pairs pair = insert_key pair_cmp pairs pair

-- the list without a pair
abbrev pub without_pair : List (Id × Id) → Id × Id → List (Id × Id)
without_pair pairs pair = remove_key (is_at (pair_cmp pair)) pairs

abbrev pub is_unit : Chart → Id → Bool
is_unit chart id = is_some (at chart.units id)

abbrev pub is_user : Chart → Id → Bool
is_user chart id = is_some (at chart.users id)

-- whether an id is that of a further team
abbrev pub is_team : Chart → Id → Bool
is_team chart id = is_some (at chart.teams id)

-- an id that a new unit, user or team can't have: the nil id, or one of theirs
abbrev pub is_taken : Chart → Id → Bool
is_taken chart id = (id.0 == 0) || (is_unit chart id || (is_user chart id || is_team chart id))

-- the chart with a unit under a parent, where there was one of its id or not
abbrev pub with_unit : Chart → Id → Id → Chart
with_unit chart id parent = record { units = put chart.units id parent; users = chart.users; teams = chart.teams; members = chart.members }

-- the chart with a user
abbrev pub with_user : Chart → Id → User → Chart
with_user chart id user = record { units = chart.units; users = put chart.users id user; teams = chart.teams; members = chart.members }

-- the chart with a further team
abbrev pub with_team : Chart → Id → Team → Chart
with_team chart id team = record { units = chart.units; users = chart.users; teams = put chart.teams id team; members = chart.members }

-- the chart with a user as a member of a team
abbrev pub with_member : Chart → Id → Id → Chart
with_member chart team user = record { units = chart.units; users = chart.users; teams = chart.teams; members = with_pair chart.members (team, user) }

-- the chart without a member of a team
abbrev pub without_member : Chart → Id → Id → Chart
without_member chart team user = record { units = chart.units; users = chart.users; teams = chart.teams; members = without_pair chart.members (team, user) }
