-- What a walk over what a user holds gives.
use Rattle.std.specs.Prelude.{◌≡◌, ℕ, ◌<◌, ◌^◌, Bool, true, false, not, ◌==◌, ◌&&◌, Option, Some, None, IsTrue}
use Rattle.dv_value.specs.declared.id.Id.{Id}
use Rattle.dv_roles.specs.declared.reach.Reach.{Reach}
use Rattle.dv_roles.specs.Seated.{most_after, steps_left}
use Rattle.dv_roles.specs.Walk.{Query, is_left, IsNextDepth}

-- what a walk is over
abbrev pub query_of : Reach → Query
query_of r = record { d = r.directory.now; user = r.user; action = r.action; table = r.table }

-- whether a walk has still to give a pair of a depth and a seat
abbrev pub has_left : Reach → ℕ → Id → Bool
has_left r depth seat = is_left (query_of r) r.team r.depth depth seat

-- one walk is nearer to its end than another
abbrev pub IsNearer : Reach → Reach → Type 0
IsNearer new old = steps_left new.team new.depth < steps_left old.team old.depth

-- the least depth at the present seat that is held, from the walk's depth on
abbrev pub IsNextOf : Reach → Option ℕ → Type 0
IsNextOf r depth = IsNextDepth (query_of r) r.team r.depth depth

-- a walk has nothing left to give
abbrev pub IsSpent : Reach → Type 0
IsSpent r = (depth : ℕ) (seat : Id) → has_left r depth seat ≡ false

-- a walk gives a pair that was left, and every other pair that was left is left still; or none was left
abbrev pub Gives : Reach → Reach → Option (ℕ × Id) → Type 0
Gives old new None = IsSpent old
Gives old new (Some pair) = IsTrue (has_left old pair.0 pair.1)
    × ((depth : ℕ) (seat : Id) → has_left new depth seat ≡ (has_left old depth seat && not ((depth == pair.0) && (seat.0 == pair.1.0))))

-- a walk goes on to a further team, and what was left is left; or nothing was left, nor is
abbrev pub GoesOn : Reach → Reach → Bool → Type 0
GoesOn old new false = IsSpent old × IsSpent new
GoesOn old new true = (most_after (2 ^ 128) new.team < most_after (2 ^ 128) old.team)
    × ((depth : ℕ) (seat : Id) → has_left new depth seat ≡ has_left old depth seat)
