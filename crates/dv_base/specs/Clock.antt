-- A clock gives moments: whole seconds since 1970-01-01T00:00:00Z, in the years 0001 to 9999.
-- One in memory tells those that it is to give, each once, and the moment that it gives for good after them.
use Rattle.std.specs.Prelude.{◌≡◌, ℕ, ℤ, pos, negsuc, ◌≤ℤ◌, List, get_or, drop, Option, option_map, IfSome}

-- the moment lies in the range of every clock
abbrev pub IsInRange : ℤ → Type 0
IsInRange now = (negsuc 62135596799 ≤ℤ now) × (now ≤ℤ pos 253402300799)

-- The moments that a clock still gives.
pub record Moments : Type 0 where
  -- each of these once, in their order
  pub list : List ℤ
  -- and then this one for good
  pub last : ℤ

-- the moment that comes next
abbrev pub first_of : Moments → ℤ
first_of moments = get_or moments.list 0 moments.last

-- what is left once it has come
abbrev pub rest_of : Moments → Moments
rest_of moments = record { list = drop 1 moments.list; last = moments.last }

-- What a clock tells of itself.
pub record ClockState : Type 0 where
  -- the moments that it still gives, where it tells them
  pub moments : Option Moments
  -- how often it failed
  pub faults : ℕ

-- A moment was taken from the clock: the first of those that it tells. Its count of faults stands.
pub record Ticks (before : ClockState) (now : ℤ) (after : ClockState) : Type 0 where
  pub first : IfSome before.moments (λ moments. now ≡ first_of moments)
  pub rest : after.moments ≡ option_map rest_of before.moments
  pub faults : after.faults ≡ before.faults
