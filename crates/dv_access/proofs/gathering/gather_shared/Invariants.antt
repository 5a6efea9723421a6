use Rattle.std.proofs.Common.{◌≡◌, ◌^◌}
use Rattle.std.specs.Prelude.{IsTrue, IsSome}
use Rattle.std.specs.FinMap as map
use Rattle.dv_schema.specs.declared.opening.Action.TheVariants.{Read}
use Rattle.dv_roles.specs.Seated.{most_after}
use Rattle.dv_store.specs.Keys.{grant_key}
use Rattle.dv_store.specs.World.{grant_at}
use Rattle.dv_access.specs.Rights.{grant_has}
use Rattle.dv_access.specs.Gathered.{Gathers}
use Rattle.dv_access.proofs.Walks.{GotUpTo}
use Rattle.dv_access.proofs.gathering.gather_shared.Given as goal

abbrev pub invariant-rows : goal.invariant-rows
invariant-rows g l = Gathers (GotUpTo (λ id. IsSome (map.get (g.C.Cursors.told l.fn.cursors).grants (grant_key l.fn.table id l.fn.principal)))
    (λ place id. (id ≡ place) × IsTrue (grant_has (grant_at (g.C.Cursors.told l.fn.cursors).grants l.fn.table place l.fn.principal) Read)) l.after) l.fn.ids.items l.ids.items
    × (g.C.Cursors.told l.cursors ≡ g.C.Cursors.told l.fn.cursors)

abbrev pub decreases-rows : goal.decreases-rows
decreases-rows g l = most_after (2 ^ 128) l.after
