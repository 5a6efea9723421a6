use Rattle.std.specs.Str.{chars}
use Rattle.std.proofs.Common.{rules}
use Rattle.dv_roles.proofs.Refused.{to-access-team, admin-to-team}
use Rattle.dv_roles.proofs.directory.Directory.give_role.Goals as goal

pub returns-in-Some-AccessTeam-clause-err : goal.returns-in-Some-AccessTeam-clause-err
unfolding chars
returns-in-Some-AccessTeam-clause-err c = to-access-team c.args.self.now c.args.role c.args.to c.in_ok-why-in-Some-AccessTeam.why (search rules) (search rules) c.in_ok-why-in-Some-AccessTeam.ensures

pub returns-then-role-eq0-clause-err : goal.returns-then-role-eq0-clause-err
unfolding chars
returns-then-role-eq0-clause-err c = admin-to-team c.args.self.now c.args.role c.args.to c.in_ok-why-in-Some-OwnerTeam.why (search rules) (search rules) (search rules) c.in_ok-why-in-Some-OwnerTeam.ensures
