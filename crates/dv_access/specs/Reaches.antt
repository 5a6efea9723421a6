-- How far a privilege reaches: the owners whose rows a user may do an action on by what it holds.
use Rattle.std.specs.Prelude.{ℕ, Bool, false, IsTrue, ◌==◌, ◌||◌, ◌&&◌, Option, None, Some, slice_get}
use Rattle.std.specs.Option.{option_map_or}
use Rattle.dv_value.specs.declared.id.Id.{Id}
use Rattle.dv_schema.specs.declared.opening.Action.{Action}
use Rattle.dv_units.specs.Chart.{Chart}
use Rattle.dv_units.specs.Tree.{is_within}
use Rattle.dv_units.specs.Membership.{unit_of, is_in_team}
use Rattle.dv_roles.specs.State.{State}
use Rattle.dv_roles.specs.Held.{holds}

-- the depths above the user's own: the business unit, that and the units below it, the whole organisation
abbrev pub local : ℕ
local = 1

abbrev pub deep : ℕ
deep = 2

abbrev pub global : ℕ
global = 3

-- whether users own the rows of a table; else the organisation does
abbrev pub is_user_owned : State → ℕ → Bool
is_user_owned d table = is (slice_get d.owned table)
  where
    is : Option Bool → Bool
    is None = false
    is (Some owned) = owned

-- a test of the business units that two principals belong to
abbrev pub of_units : Chart → Id → Id → (Id → Id → Bool) → Bool
of_units chart seat owner test = option_map_or (λ above. option_map_or (λ unit. test unit above) (unit_of chart owner) false) (unit_of chart seat) false

-- the owner belongs to the seat's business unit
abbrev pub is_in_unit_of : Chart → Id → Id → Bool
is_in_unit_of chart seat owner = of_units chart seat owner (λ unit above. unit.0 == above.0)

-- the owner belongs to the seat's business unit or to one below it
abbrev pub is_below : Chart → Id → Id → Bool
is_below chart seat owner = of_units chart seat owner (is_within chart)

-- whom a user acts as: itself, and each team that it belongs to
abbrev pub acts_as : Chart → Id → Id → Bool
acts_as chart user principal = (principal.0 == user.0) || is_in_team chart user principal

-- whether a pair of a depth and a seat, which is the user or a team of it, reaches what an owner owns: by the units;
-- from the user's own seat what it or one of its teams owns; from the seat of a team what that team owns
unfoldable pub covers : Chart → Id → ℕ → Id → Id → Bool
covers chart user depth seat owner = (((depth == deep) && is_below chart seat owner) || ((depth == local) && is_in_unit_of chart seat owner))
    || (((seat.0 == user.0) && acts_as chart user owner) || (seat.0 == owner.0))

-- whether it reaches the rows of an owner in a table; where the organisation owns them, at global depth alone
unfoldable pub is_reached : State → Id → ℕ → ℕ → Id → Option Id → Bool
is_reached d user table depth seat owner = (depth == global) || (is_user_owned d table && option_map_or (covers d.chart user depth seat) owner false)

-- a user holds an action on a table, at some depth from some seat
pub record Holds (d : State) (user : Id) (action : Action) (table : ℕ) : Type 0 where
  pub depth : ℕ
  pub seat : Id
  pub held : IsTrue (holds d user action table depth seat)

-- a user may do an action on the rows of an owner by what it holds
pub record Reaches (d : State) (user : Id) (action : Action) (table : ℕ) (owner : Option Id) : Type 0 where
  pub depth : ℕ
  pub seat : Id
  pub held : IsTrue (holds d user action table depth seat)
  pub reached : IsTrue (is_reached d user table depth seat owner)
