use Rattle.std.proofs.Common.{◌≡◌, drop}
use Rattle.dv_roles.specs.Beginning.{each, giving_to}
use Rattle.dv_roles.proofs.directory.Directory.give_roles.Given as goal

abbrev pub invariant-loop-role : goal.invariant-loop-role
invariant-loop-role l = each (giving_to l.principal) l.fn.self l.roles ≡ each (giving_to l.principal) l.self (drop l.role-index l.roles)
