-- The rules on who has which roles. The directory that a definition begins with meets them, and each change of a
-- directory keeps them; changes of the chart alone need not.
use Rattle.std.specs.Prelude.{◌≡◌, ◌≢◌, Bool, true, false, Option, Some, is_some, IsTrue}
use Rattle.dv_value.specs.declared.id.Id.{Id}
use Rattle.dv_units.specs.Chart.{Chart, at, has}
use Rattle.dv_roles.specs.declared.principal.Principal.{Principal}
use Rattle.dv_roles.specs.declared.principal.Principal.TheVariants.{User, OwnerTeam}
use Rattle.dv_roles.specs.State.{State, is_role, is_admin, principal_of}
use Rattle.dv_roles.specs.Held.{is_user}
use Rattle.dv_roles.specs.Messages.{is_enabled}

-- whether an id is that of a user or an owner team, who may have roles
abbrev pub may_have_roles : Chart → Id → Bool
may_have_roles chart id = may (principal_of chart id)
  where
    may : Option Principal → Bool
    may (Some User) = true
    may (Some OwnerTeam) = true
    may _ = false

pub record HasRules (d : State) : Type 0 where
  -- the System Administrator isn't listed among the other roles
  pub named : (id : Id) → IsTrue (is_some (at d.roles id)) → id.0 ≢ 0
  -- a role that somebody has is there
  pub roles : (principal role : Id) → IsTrue (has d.gifts (principal, role)) → IsTrue (is_role d role)
  -- who has a role is a user or an owner team
  pub holders : (principal role : Id) → IsTrue (has d.gifts (principal, role)) → IsTrue (may_have_roles d.chart principal)
  -- who has the System Administrator role is a user
  pub users : (principal : Id) → IsTrue (is_admin d principal) → IsTrue (is_user d.chart principal)
  -- and an enabled user has it
  pub admin : Id
  pub admin_has : IsTrue (is_admin d admin)
  pub admin_enabled : IsTrue (is_enabled d admin)

-- one directory is of the same definition as another, and keeps its rules
pub record Keeps (old new : State) : Type 0 where
  pub owned : new.owned ≡ old.owned
  pub rules : HasRules old → HasRules new
