-- What a user may do with a row.
use Rattle.std.specs.Prelude.{◌≡◌, ◌⊎◌, ◌+◌, ℕ, IsTrue, IsSome, List, [], ◌∷◌, Option, None, if◌then◌else◌}
use Rattle.std.specs.Option.{option_and_then}
use Rattle.std.specs.FinMap as map
use Rattle.dv_value.specs.declared.id.Id.{Id}
use Rattle.dv_schema.specs.declared.opening.Action.{Action}
use Rattle.dv_schema.specs.declared.opening.Action.TheVariants.{Read, Write, Delete, Append, AppendTo, Assign, Share}
use Rattle.dv_roles.specs.State.{State}
use Rattle.dv_store.specs.declared.keys.GrantKey.{GrantKey}
use Rattle.dv_store.specs.World.{row_at, grant_at, named_at}
use Rattle.dv_store.specs.Cursors.{Told, owner_place}
use Rattle.dv_access.specs.Reaches.{is_user_owned, acts_as, Holds, Reaches}
use Rattle.dv_access.specs.Rights.{right_of, grant_has}

-- the owner of a row; none where the organisation owns the rows of its table
unfoldable pub owner_at : State → Told → ℕ → Id → Option Id
owner_at d told table id = if is_user_owned d table then option_and_then (λ row. named_at row owner_place) (row_at told.rows table id) else None

-- the row is shared with the user or with a team of it, for an action
pub record IsShared (d : State) (told : Told) (user : Id) (action : Action) (table : ℕ) (id : Id) : Type 0 where
  pub principal : Id
  pub own : IsTrue (acts_as d.chart user principal)
  pub right : IsTrue (grant_has (grant_at told.grants table id principal) action)

-- a share counts where users own the rows of the table and the user holds something of the action on it
pub record IsAllowedByShare (d : State) (told : Told) (user : Id) (action : Action) (table : ℕ) (id : Id) : Type 0 where
  pub holds : Holds d user action table
  pub owned : IsTrue (is_user_owned d table)
  pub shared : IsShared d told user action table id

-- a user may do an action on a row by what it holds, or by a share
abbrev pub Permitted : State → Told → Id → Action → ℕ → Id → Type 0
Permitted d told user action table id = Reaches d user action table (owner_at d told table id) ⊎ IsAllowedByShare d told user action table id

-- the right to do an action where the user may do it, else nothing
pub record IsRightOf (May : Action → Type 0) (action : Action) (part : ℕ) : Type 0 where
  pub may : May action → part ≡ right_of action
  pub not_may : (May action → ⊥) → part ≡ 0

-- the sum of these over a list of actions
abbrev pub IsSumOf : (Action → Type 0) → List Action → ℕ → Type 0
IsSumOf May [] sum = sum ≡ 0
IsSumOf May (action ∷ actions) sum = (part : ℕ) × ((rest : ℕ) × (IsRightOf May action part × (IsSumOf May actions rest × (sum ≡ part + rest))))

-- the actions on a row that is there: all but its creation
abbrev pub on_rows : List Action
on_rows = Read ∷ Write ∷ Append ∷ AppendTo ∷ Delete ∷ Share ∷ Assign ∷ []

-- the rights that a user has on a row
abbrev pub AreRights : State → Told → Id → ℕ → Id → ℕ → Type 0
AreRights d told user table id = IsSumOf (λ action. Permitted d told user action table id) on_rows

-- each grant that is told stands on a row that is told
abbrev pub AreOnRows : Told → Type 0
AreOnRows told = (grant : GrantKey) → IsSome (map.get told.grants grant) → IsSome (map.get told.rows grant.row)
