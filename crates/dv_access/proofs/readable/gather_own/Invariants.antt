use Rattle.std.proofs.Common.{◌≡◌, ◌^◌, ◌⊎◌}
use Rattle.std.specs.Prelude.{IsTrue}
use Rattle.dv_units.specs.Membership.{is_in_team}
use Rattle.dv_roles.specs.Seated.{most_after}
use Rattle.dv_access.specs.Gathered.{Gathers, IsRowOfPrincipal}
use Rattle.dv_access.proofs.Walks.{GotUpTo}
use Rattle.dv_access.proofs.readable.gather_own.Given as goal

abbrev pub invariant-teams : goal.invariant-teams
invariant-teams g l = Gathers (λ id. IsRowOfPrincipal l.fn.directory (g.C.Cursors.told l.fn.cursors) l.fn.user l.fn.table l.fn.user id
    ⊎ GotUpTo (λ team. IsTrue (is_in_team l.fn.directory.chart l.fn.user team)) (IsRowOfPrincipal l.fn.directory (g.C.Cursors.told l.fn.cursors) l.fn.user l.fn.table) l.after id) l.fn.ids.items l.ids.items
    × (g.C.Cursors.told l.cursors ≡ g.C.Cursors.told l.fn.cursors)

abbrev pub decreases-teams : goal.decreases-teams
decreases-teams g l = most_after (2 ^ 128) l.after
