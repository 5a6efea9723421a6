use Rattle.std.proofs.Common.{◌≡◌, ◌^◌}
use Rattle.std.specs.Prelude.{IsSome}
use Rattle.dv_roles.specs.Seated.{most_after}
use Rattle.dv_store.specs.World.{row_at}
use Rattle.dv_access.specs.Gathered.{Gathers}
use Rattle.dv_access.proofs.Walks.{GotUpTo}
use Rattle.dv_access.proofs.gathering.gather_rows.Given as goal

abbrev pub invariant-rows : goal.invariant-rows
invariant-rows g l = Gathers (GotUpTo (λ id. IsSome (row_at (g.C.Cursors.told l.fn.cursors).rows l.fn.table id)) (λ place id. id ≡ place) l.after) l.fn.ids.items l.ids.items
    × (g.C.Cursors.told l.cursors ≡ g.C.Cursors.told l.fn.cursors)

abbrev pub decreases-rows : goal.decreases-rows
decreases-rows g l = most_after (2 ^ 128) l.after
