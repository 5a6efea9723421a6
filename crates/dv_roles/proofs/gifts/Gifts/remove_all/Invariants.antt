use Rattle.std.proofs.Common.{◌≡◌, length}
use Rattle.dv_roles.specs.Gifts.{without_gifts_of}
use Rattle.dv_roles.proofs.gifts.Gifts.remove_all.Given as goal

abbrev pub invariant-roles : goal.invariant-roles
invariant-roles l = without_gifts_of l.self l.principal ≡ without_gifts_of l.fn.self l.principal

abbrev pub decreases-roles : goal.decreases-roles
decreases-roles l = length l.self
