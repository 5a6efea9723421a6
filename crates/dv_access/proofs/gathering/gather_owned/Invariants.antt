use Rattle.std.proofs.Common.{◌≡◌, ◌^◌}
use Rattle.std.specs.Prelude.{true}
use Rattle.dv_roles.specs.Seated.{most_after}
use Rattle.dv_store.specs.World.{row_at, names}
use Rattle.dv_store.specs.Cursors.{owner_place}
use Rattle.dv_access.specs.Gathered.{Gathers}
use Rattle.dv_access.proofs.Walks.{GotUpTo}
use Rattle.dv_access.proofs.gathering.gather_owned.Given as goal

abbrev pub invariant-rows : goal.invariant-rows
invariant-rows g l = Gathers (GotUpTo (λ id. names (row_at (g.C.Cursors.told l.fn.cursors).rows l.fn.table id) owner_place l.fn.owner ≡ true) (λ place id. id ≡ place) l.after) l.fn.ids.items l.ids.items
    × (g.C.Cursors.told l.cursors ≡ g.C.Cursors.told l.fn.cursors)

abbrev pub decreases-rows : goal.decreases-rows
decreases-rows g l = most_after (2 ^ 128) l.after
