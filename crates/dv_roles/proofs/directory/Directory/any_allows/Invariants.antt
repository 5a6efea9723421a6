use Rattle.std.proofs.Common.{◌^◌}
use Rattle.dv_units.specs.Chart.{has}
use Rattle.dv_roles.specs.Held.{allows}
use Rattle.dv_roles.specs.Seated.{most_after}
use Rattle.dv_roles.proofs.Least.{NoneUpTo}
use Rattle.dv_roles.proofs.directory.Directory.any_allows.Given as goal

abbrev pub invariant-roles : goal.invariant-roles
invariant-roles l = NoneUpTo (λ role. has l.self.gifts (l.principal, role)) (allows l.self l.asked) l.after

abbrev pub decreases-roles : goal.decreases-roles
decreases-roles l = most_after (2 ^ 128) l.after
