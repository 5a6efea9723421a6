-- The teams of a user: the default team of its unit, whose id is the unit's, and the further teams that it is a member
-- of.
use Rattle.std.specs.Prelude.{◌≡◌, ◌≤◌, Bool, false, ◌==◌, ◌||◌, ◌&&◌, List, Option, Some, None, IsTrue}
use Rattle.std.specs.Option.{option_map, option_map_or, option_or}
use Rattle.std.specs.Ordering.{is_lt, is_gt}
use Rattle.dv_value.specs.declared.id.Id.{Id}
use Rattle.dv_units.specs.Chart.{Chart, at, has, pair_cmp}
use Rattle.dv_units.specs.Cursors.{is_past}

-- the unit that a user or a team belongs to; the default team of a unit belongs to the unit
abbrev pub unit_of : Chart → Id → Option Id
unit_of chart id = option_or (option_map (λ user. user.unit) (at chart.users id))
    (option_or (option_map (λ team. team.unit) (at chart.teams id)) (option_map (λ parent. id) (at chart.units id)))

-- whether an id is that of the default team of a user's unit
abbrev pub is_default_team : Chart → Id → Id → Bool
is_default_team chart user team = option_map_or (λ found. team.0 == found.unit.0) (at chart.users user) false

-- whether a user belongs to a team
abbrev pub is_in_team : Chart → Id → Id → Bool
is_in_team chart user team = is_default_team chart user team || has chart.members (team, user)

-- the least id that passes a test, or none where none passes
abbrev pub IsLeast : (Id → Bool) → Option Id → Type 0
IsLeast test None = (id : Id) → test id ≡ false
IsLeast test (Some id) = IsTrue (test id) × ((other : Id) → IsTrue (test other) → id.0 ≤ other.0)

-- the first of a user's teams past an id, or none where there is none
abbrev pub IsNextTeam : Chart → Id → Option Id → Option Id → Type 0
IsNextTeam chart user after team = IsLeast (λ id. is_in_team chart user id && is_past after id) team

-- the first pair of a list past another, or none where there is none
abbrev pub IsFirstPast : List (Id × Id) → Id × Id → Option (Id × Id) → Type 0
IsFirstPast pairs after None = (pair : Id × Id) → IsTrue (has pairs pair) → is_lt (pair_cmp after pair) ≡ false
IsFirstPast pairs after (Some first) = IsTrue (has pairs first) × (IsTrue (is_lt (pair_cmp after first))
    × ((pair : Id × Id) → IsTrue (has pairs pair) → IsTrue (is_lt (pair_cmp after pair)) → is_gt (pair_cmp first pair) ≡ false))
