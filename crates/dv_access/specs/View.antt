-- What a user can see: no answer to it may depend on more.
use Rattle.std.specs.Prelude.{ℕ, Bool, IsTrue, IsSome, ◌==◌, ◌↔◌, List, Option}
use Rattle.std.specs.Option.{option_map}
use Rattle.std.specs.List.{list_any}
use Rattle.std.specs.List.Sorted.{IsStrictlySortedBy}
use Rattle.std.specs.Ordering.{nat_cmp}
use Rattle.dv_value.specs.declared.id.Id.{Id}
use Rattle.dv_schema.specs.declared.opening.Action.TheVariants.{Read}
use Rattle.dv_units.specs.Chart.{at}
use Rattle.dv_units.specs.Membership.{unit_of, is_in_team}
use Rattle.dv_roles.specs.State.{State}
use Rattle.dv_store.specs.World.{row_at}
use Rattle.dv_store.specs.Cursors.{Told}
use Rattle.dv_access.specs.Reaches.{Holds}
use Rattle.dv_access.specs.Permitted.{Permitted}

-- a row is there, and the user may read it
pub record IsReadable (d : State) (told : Told) (user : Id) (table : ℕ) (id : Id) : Type 0 where
  pub there : IsSome (row_at told.rows table id)
  pub permitted : Permitted d told user Read table id

-- whether the user is there and enabled; its id, unit and teams; the tables of which it may read anything; of each
-- table the rows that it may read
pub record View : Type 1 where
  pub enabled : Option Bool
  pub user : Id
  pub unit : Option Id
  pub is_team : Id → Bool
  pub ReadsTable : ℕ → Type 0
  pub ReadsRow : ℕ → Id → Type 0

abbrev pub view_of : State → Told → Id → View
view_of d told user = record {
  enabled = option_map (λ found. found.enabled) (at d.chart.users user);
  user = user;
  unit = unit_of d.chart user;
  is_team = is_in_team d.chart user;
  ReadsTable = λ table. Holds d user Read table;
  ReadsRow = IsReadable d told user;
}

-- whether a list has an id
abbrev pub is_among : List Id → Id → Bool
is_among ids id = list_any (λ x. id.0 == x.0) ids

-- the ids of which something is so, ascending, each once
pub record AreExactly (IsOf : Id → Type 0) (ids : List Id) : Type 0 where
  pub ascending : IsStrictlySortedBy (λ a b. nat_cmp a.0 b.0) ids
  pub exactly : (id : Id) → IsTrue (is_among ids id) ↔ IsOf id
