use Rattle.std.proofs.Common.{◌≡◌, drop}
use Rattle.dv_roles.specs.Beginning.{each, making_user}
use Rattle.dv_roles.proofs.directory.Directory.make_users.Given as goal

abbrev pub invariant-loop-user : goal.invariant-loop-user
invariant-loop-user l = each making_user l.fn.self l.users ≡ each making_user l.self (drop l.user-index l.users)
