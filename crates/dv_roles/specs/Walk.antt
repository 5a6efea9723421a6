-- A walk over what a user holds of an action on a table: first the user's own seat, then the seats of its teams by
-- ascending id, and at each seat by ascending depth.
use Rattle.std.specs.Prelude.{◌≡◌, ℕ, ◌≤◌, ◌<◌, Bool, true, false, not, ◌==◌, ◌||◌, ◌&&◌, Option, Some, None, nat_lt, nat_le, IsTrue}
use Rattle.dv_value.specs.declared.id.Id.{Id}
use Rattle.dv_schema.specs.declared.opening.Action.{Action}
use Rattle.dv_units.specs.Membership.{is_in_team}
use Rattle.dv_roles.specs.State.{State}
use Rattle.dv_roles.specs.Held.{user_holds, team_holds}

-- what a walk is over: a directory, a user, an action and a table
pub record Query : Type 0 where
  pub d : State
  pub user : Id
  pub action : Action
  pub table : ℕ

-- whether the user's own pair of a depth is still to come, where the walk is at the seat of a team, or at none and so
-- at the user's own, and there at a depth
abbrev pub is_own_ahead : Option Id → ℕ → ℕ → Bool
is_own_ahead None from depth = nat_le from depth
is_own_ahead (Some team) from depth = false

-- whether a team's pair is
abbrev pub is_ahead : Option Id → ℕ → ℕ → Id → Bool
is_ahead None from depth seat = true
is_ahead (Some team) from depth seat = nat_lt team.0 seat.0 || ((seat.0 == team.0) && nat_le from depth)

-- whether a walk has still to give a pair of a depth and a seat
unfoldable pub is_left : Query → Option Id → ℕ → ℕ → Id → Bool
is_left q team from depth seat = nat_lt depth 4
    && (((seat.0 == q.user.0) && (is_own_ahead team from depth && user_holds q.d q.action q.table depth q.user))
    || (is_in_team q.d.chart q.user seat && (is_ahead team from depth seat && team_holds q.d q.action q.table depth seat)))

-- whether a depth is held at a walk's present seat
abbrev pub is_held : Query → Option Id → ℕ → Bool
is_held q None depth = user_holds q.d q.action q.table depth q.user
is_held q (Some team) depth = team_holds q.d q.action q.table depth team

-- the least depth at the present seat that is held, from a depth on
abbrev pub IsNextDepth : Query → Option Id → ℕ → Option ℕ → Type 0
IsNextDepth q team from None = (depth : ℕ) → from ≤ depth → depth < 4 → is_held q team depth ≡ false
IsNextDepth q team from (Some found) = (from ≤ found) × ((found < 4) × (IsTrue (is_held q team found)
    × ((depth : ℕ) → from ≤ depth → depth < found → is_held q team depth ≡ false)))

-- nothing is left
abbrev pub IsOver : Query → Option Id → ℕ → Type 0
IsOver q team from = (depth : ℕ) (seat : Id) → is_left q team from depth seat ≡ false

-- the same is left at another place
abbrev pub IsSame : Query → Option Id → ℕ → Option Id → ℕ → Type 0
IsSame q team from new new_from = (depth : ℕ) (seat : Id) → is_left q new new_from depth seat ≡ is_left q team from depth seat

-- a pair was left, and all others that were are left still
abbrev pub IsGiven : Query → Option Id → ℕ → Option Id → ℕ → ℕ × Id → Type 0
IsGiven q team from new new_from pair = IsTrue (is_left q team from pair.0 pair.1)
    × ((depth : ℕ) (seat : Id) → is_left q new new_from depth seat ≡ (is_left q team from depth seat && not ((depth == pair.0) && (seat.0 == pair.1.0))))
