-- Ids gathered into a list, one after the other, in any order and perhaps several times.
use Rattle.std.specs.Prelude.{◌≡◌, ◌⊎◌, ℕ, true, false, IsTrue, List, Some, ◌==◌, ◌||◌}
use Rattle.dv_value.specs.declared.id.Id.{Id}
use Rattle.dv_schema.specs.declared.opening.Action.{Action}
use Rattle.dv_schema.specs.declared.opening.Action.TheVariants.{Read}
use Rattle.dv_roles.specs.State.{State}
use Rattle.dv_roles.specs.Held.{holds}
use Rattle.dv_store.specs.World.{row_at, grant_at, names}
use Rattle.dv_store.specs.Cursors.{Told, owner_place}
use Rattle.dv_access.specs.Reaches.{deep, local, acts_as, Reaches}
use Rattle.dv_access.specs.Rights.{grant_has}
use Rattle.dv_access.specs.Principals.{is_principal}
use Rattle.dv_access.specs.View.{is_among}

-- a list got the ids of which something is so, and no others
pub record Gathers (IsOf : Id → Type 0) (old new : List Id) : Type 0 where
  pub kept : (id : Id) → IsTrue (is_among old id) → IsTrue (is_among new id)
  pub found : (id : Id) → IsOf id → IsTrue (is_among new id)
  pub only : (id : Id) → IsTrue (is_among new id) → IsTrue (is_among old id) ⊎ IsOf id

-- what is got at some place of a walk
pub record Got (IsOf : Id → Type 0) (Gets : Id → Id → Type 0) (id : Id) : Type 0 where
  pub place : Id
  pub is : IsOf place
  pub got : Gets place id

-- a row of a table that an owner has, and that what a user holds of reading reaches
pub record IsReachedRow (d : State) (told : Told) (user : Id) (table : ℕ) (owner id : Id) : Type 0 where
  pub reached : Reaches d user Read table (Some owner)
  pub owned : names (row_at told.rows table id) owner_place owner ≡ true

-- a row that a principal brings, as whom the user acts
abbrev pub IsRowOfPrincipal : State → Told → Id → ℕ → Id → Id → Type 0
IsRowOfPrincipal d told user table principal id = IsReachedRow d told user table principal id ⊎ IsTrue (grant_has (grant_at told.grants table id principal) Read)

-- a row that one of them brings
abbrev pub IsOwnRow : State → Told → Id → ℕ → Id → Type 0
IsOwnRow d told user table = Got (λ principal. IsTrue (acts_as d.chart user principal)) (IsRowOfPrincipal d told user table)

-- a user holds an action on a table over business units
pub record HoldsInUnits (d : State) (user : Id) (action : Action) (table : ℕ) : Type 0 where
  pub depth : ℕ
  pub seat : Id
  pub held : IsTrue (holds d user action table depth seat)
  pub in_units : IsTrue ((depth == deep) || (depth == local))

-- a row of an owner as whom the user doesn't act, that is reached
pub record IsRowOfOther (d : State) (told : Told) (user : Id) (table : ℕ) (owner id : Id) : Type 0 where
  pub other : acts_as d.chart user owner ≡ false
  pub reached : IsReachedRow d told user table owner id

-- such a row of some user or team, where the user holds something over business units
pub record IsRowInUnits (d : State) (told : Told) (user : Id) (table : ℕ) (id : Id) : Type 0 where
  pub holds : HoldsInUnits d user Read table
  pub got : Got (λ owner. IsTrue (is_principal d.chart owner)) (IsRowOfOther d told user table) id
