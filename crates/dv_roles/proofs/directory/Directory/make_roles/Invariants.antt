use Rattle.std.proofs.Common.{◌≡◌, drop}
use Rattle.dv_roles.specs.Beginning.{each, making_role}
use Rattle.dv_roles.proofs.directory.Directory.make_roles.Given as goal

abbrev pub invariant-loop-role : goal.invariant-loop-role
invariant-loop-role l = each (making_role l.definition) l.fn.self l.roles ≡ each (making_role l.definition) l.self (drop l.role-index l.roles)
