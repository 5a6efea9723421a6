use Rattle.std.specs.Str.{chars}
use Rattle.std.proofs.Common.{rules}
use Rattle.dv_roles.proofs.Refused.{bad-entry}
use Rattle.dv_roles.proofs.entries.check_on.Goals as goal

pub returns-then-is_bad-clause-err : goal.returns-then-is_bad-clause-err
unfolding chars
returns-then-is_bad-clause-err c = rw (c.in-Some-false.is, c.in-Some-false.field-0-test) (bad-entry c.args.name.now c.args.entry.now c.in_ok-why-in-Some-false.why (search rules) c.in_ok-why-in-Some-false.ensures)
