use Rattle.std.proofs.Common.{◌≡◌, ◌^◌}
use Rattle.std.specs.Prelude.{IsTrue}
use Rattle.dv_roles.specs.Seated.{most_after}
use Rattle.dv_access.specs.Principals.{is_principal}
use Rattle.dv_access.specs.Gathered.{Gathers, IsRowOfOther}
use Rattle.dv_access.proofs.Walks.{GotUpTo}
use Rattle.dv_access.proofs.readable.gather_in_units.Given as goal

abbrev pub invariant-owners : goal.invariant-owners
invariant-owners g l = Gathers (GotUpTo (λ owner. IsTrue (is_principal l.fn.directory.chart owner)) (IsRowOfOther l.fn.directory (g.C.Cursors.told l.fn.cursors) l.fn.user l.fn.table) l.after) l.fn.ids.items l.ids.items
    × (g.C.Cursors.told l.cursors ≡ g.C.Cursors.told l.fn.cursors)

abbrev pub decreases-owners : goal.decreases-owners
decreases-owners g l = most_after (2 ^ 128) l.after
