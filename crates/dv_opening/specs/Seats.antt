-- An invariant of the code, and no rule of the directory: an index of the opening's ids has each id's first place.
use Rattle.std.specs.Prelude.{ℕ, ◌≡◌, List, Option}
use Rattle.std.specs.BTreeMap.{get}
use Rattle.std.specs.Ordering.{nat_cmp}
use Rattle.dv_schema.specs.declared.opening.Opening.{Opening}
use Rattle.dv_opening.specs.declared.ids.Ids.{Ids}
use Rattle.dv_opening.specs.declared.seats.Made.{Made}
use Rattle.dv_opening.specs.declared.seats.Seats.{Seats}
use Rattle.dv_opening.specs.Directory.{Directory}
use Rattle.dv_opening.specs.Opening.{id_place, made, unit_ids, user_ids, team_ids, role_ids}

-- the place that an id has
unfoldable pub place_in : Ids → ℕ → Option ℕ
place_in ids = get nat_cmp ids.map

-- the places of ids are their first ones in a list
abbrev pub Places : Ids → List ℕ → Type 0
Places ids list = (id : ℕ) → place_in ids id ≡ id_place list id

-- each id of the opening is found
pub record AreSeatsOf (o : Opening) (seats : Seats) : Type 0 where
  pub units : Places seats.units (unit_ids o.units)
  pub users : Places seats.users (user_ids o.users)
  pub teams : Places seats.teams (team_ids o.teams)
  pub roles : Places seats.roles (role_ids o.roles)

-- the directory that is made so far
abbrev pub directory_of : Made → Directory
directory_of m = made m.opening.now m.units m.users m.teams m.roles
