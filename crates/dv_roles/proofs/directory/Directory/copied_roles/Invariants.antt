use Rattle.std.proofs.Common.{◌≡◌, ◌^◌}
use Rattle.dv_roles.specs.Seated.{most_after}
use Rattle.dv_roles.proofs.CopyLaws.{up_to}
use Rattle.dv_roles.proofs.directory.Directory.copied_roles.Given as goal

abbrev pub invariant-roles : goal.invariant-roles
invariant-roles l = l.copy.entries ≡ up_to l.after l.self.roles

abbrev pub decreases-roles : goal.decreases-roles
decreases-roles l = most_after (2 ^ 128) l.after
