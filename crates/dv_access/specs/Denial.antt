-- Why an action is denied.
use Rattle.std.specs.Prelude.{◌≡◌, ℕ, false}
use Rattle.dv_value.specs.declared.id.Id.{Id}
use Rattle.dv_schema.specs.declared.opening.Action.{Action}
use Rattle.dv_roles.specs.State.{State}
use Rattle.dv_roles.specs.Held.{holds}
use Rattle.dv_access.specs.declared.denied.Denied.{Denied}
use Rattle.dv_access.specs.declared.denied.Why.{Why}
use Rattle.dv_access.specs.declared.denied.Why.TheVariants.{NoPrivilege, OutOfReach}
use Rattle.dv_access.specs.Reaches.{Holds}

-- the user holds nothing of the action on the table; or it holds something, which doesn't reach so far
abbrev pub IsWhy : State → Id → Action → ℕ → Why → Type 0
IsWhy d user action table NoPrivilege = (depth : ℕ) (seat : Id) → holds d user action table depth seat ≡ false
IsWhy d user action table OutOfReach = Holds d user action table

-- a denial names the action, the table, and why
pub record IsDenial (d : State) (user : Id) (action : Action) (table : ℕ) (denied : Denied) : Type 0 where
  pub action_named : denied.action ≡ action
  pub table_named : denied.table ≡ table
  pub why : IsWhy d user action table denied.why
