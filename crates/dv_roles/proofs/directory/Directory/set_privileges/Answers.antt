use Rattle.std.specs.Str.{chars}
use Rattle.std.proofs.Common.{rules}
use Rattle.dv_roles.proofs.Refused.{admin-set}
use Rattle.dv_roles.proofs.directory.Directory.set_privileges.Goals as goal

pub returns-then-role-eq0-clause-err : goal.returns-then-role-eq0-clause-err
unfolding chars
returns-then-role-eq0-clause-err c = admin-set c.args.self.now c.args.definition.now c.args.role c.args.manage c.args.entries.now c.in_ok-why.why (search rules) c.in_ok-why.ensures
