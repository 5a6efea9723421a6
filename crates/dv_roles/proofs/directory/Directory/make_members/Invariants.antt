use Rattle.std.proofs.Common.{◌≡◌, drop}
use Rattle.dv_roles.specs.Beginning.{each, making_member}
use Rattle.dv_roles.proofs.directory.Directory.make_members.Given as goal

abbrev pub invariant-loop-user : goal.invariant-loop-user
invariant-loop-user l = each (making_member l.team) l.fn.self l.users ≡ each (making_member l.team) l.self (drop l.user-index l.users)
