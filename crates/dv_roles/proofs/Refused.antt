-- Which refusal comes, where a word says why.
use Rattle.std.proofs.Common.{◌≡◌, refl, ◌∙◌, List, ℕ, ◌<◌, length, drop, get_or, Bool, true, false}
use Rattle.std.specs.Prelude.{Err, Some, codes, ◌==◌, ◌||◌, not}
use Rattle.dv_value.specs.declared.id.Id.{Id}
use Rattle.dv_refusal.specs.declared.refusal.Refusal.TheVariants.{TeamRule, RoleRule}
use Rattle.dv_schema.specs.declared.opening.Entry.{Entry}
use Rattle.dv_schema.specs.Names.{Name}
use Rattle.dv_roles.specs.declared.principal.Principal.TheVariants.{OwnerTeam, AccessTeam}
use Rattle.dv_roles.specs.State.{State, is_role, principal_of}
use Rattle.dv_roles.specs.Entries.{is_of_owners, fault_on, entry_fault, entries_fault}
use Rattle.dv_schema.specs.declared.definition.Definition.{Definition}
use Rattle.dv_schema.specs.First.{first_from}
use Rattle.dv_schema.proofs.FirstLaws.{first_from-found}
use Rattle.dv_units.specs.declared.fault.DirFault.{DirFault}
use Rattle.dv_units.specs.declared.fault.DirFault.TheVariants.{Refused, OutOfMemory}
use Rattle.dv_units.specs.Outcome.{IsCauseOf}
use Rattle.dv_roles.specs.Messages.{giving_role, setting_privileges}

pub bad-entry : (name : Name) (entry : Entry) (why : List ℕ) → (not (entry.depth == 3) || is_of_owners entry.action) ≡ true → why ≡ codes "entry" → fault_on name (Some false) entry ≡ Some (RoleRule why)
unfolding fault_on
bad-entry name entry why bad is = rw (bad, is) refl

pub admin-set : (d : State) (definition : Definition) (role : Id) (manage : Bool) (entries : List Entry) (why : List ℕ) → (role.0 == 0) ≡ true → why ≡ codes "admin" → setting_privileges d definition role manage entries ≡ Err (RoleRule why)
unfolding setting_privileges
admin-set d definition role manage entries why nil is = rw (nil, is) refl

-- the refusal of an entry is that of the list, where nothing before it is refused
pub refused-entry : (definition : Definition) (entries : List Entry) (i : ℕ) (x : Entry) (fault : DirFault)
    → entries_fault definition entries ≡ first_from (λ i entry. entry_fault definition entry) i (drop i entries)
    → i < length entries → x ≡ get_or entries i x → IsCauseOf (entry_fault definition x) fault → IsCauseOf (entries_fault definition entries) fault
refused-entry definition entries i x (Refused refusal) before within read cause = before ∙ first_from-found (λ i entry. entry_fault definition entry) entries i x refusal within read cause
refused-entry definition entries i x OutOfMemory before within read cause = tt

pub to-access-team : (d : State) (role to : Id) (why : List ℕ) → is_role d role ≡ true → principal_of d.chart to ≡ Some AccessTeam → why ≡ codes "access" → giving_role d role to ≡ Err (TeamRule why)
unfolding giving_role
to-access-team d role to why here there is = rw (here, there, is) refl

pub admin-to-team : (d : State) (role to : Id) (why : List ℕ) → is_role d role ≡ true → principal_of d.chart to ≡ Some OwnerTeam → (role.0 == 0) ≡ true → why ≡ codes "admin" → giving_role d role to ≡ Err (RoleRule why)
unfolding giving_role
admin-to-team d role to why here there nil is = rw (here, there, nil, is) refl
