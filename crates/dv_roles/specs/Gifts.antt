-- Who has which roles: pairs of a user or a team and a role, in ascending order.
use Rattle.std.specs.Prelude.{not, ◌==◌, List, filter, if◌then◌else◌}
use Rattle.dv_value.specs.declared.id.Id.{Id}
use Rattle.dv_units.specs.Chart.{has, with_pair}

-- the pairs with one more; one that is there already changes nothing
abbrev pub with_gift : List (Id × Id) → Id → Id → List (Id × Id)
with_gift gifts principal role = if has gifts (principal, role) then gifts else with_pair gifts (principal, role)

-- the pairs without those of a user or a team
abbrev pub without_gifts_of : List (Id × Id) → Id → List (Id × Id)
without_gifts_of gifts principal = filter (λ gift. not (gift.0.0 == principal.0)) gifts
