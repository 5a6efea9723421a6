use Rattle.std.proofs.Common.{◌^◌}
use Rattle.dv_units.specs.Chart.{has}
use Rattle.dv_roles.specs.Seated.{most_after}
use Rattle.dv_roles.specs.State.{administrator}
use Rattle.dv_roles.proofs.GiftLaws.{is_other}
use Rattle.dv_roles.proofs.Least.{NoneUpTo}
use Rattle.dv_roles.proofs.directory.Directory.has_other_admin.Given as goal

abbrev pub invariant-admins : goal.invariant-admins
invariant-admins l = NoneUpTo (λ admin. has l.self.gifts (admin, administrator)) (is_other l.self l.user) l.after

abbrev pub decreases-admins : goal.decreases-admins
decreases-admins l = most_after (2 ^ 128) l.after
