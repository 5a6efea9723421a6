-- What the code keeps of who has which roles: the pairs, and the same a second time with their parts changed about.
use Rattle.std.specs.Prelude.{◌≡◌, List}
use Rattle.dv_value.specs.declared.id.Id.{Id}
use Rattle.dv_units.specs.Chart.{has}

-- the second list has the pairs of the first, as role and user or team
pub record AreTurned (gifts turned : List (Id × Id)) : Type 0 where
  pub same : (principal role : Id) → has turned (role, principal) ≡ has gifts (principal, role)
