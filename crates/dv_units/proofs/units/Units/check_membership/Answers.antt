use Rattle.std.specs.Str.{chars}
use Rattle.std.proofs.Common.{rules}
use Rattle.dv_units.proofs.Refused.{default-team}
use Rattle.dv_units.proofs.units.Units.check_membership.Goals as goal

pub returns-then-is_unit-clause-err : goal.returns-then-is_unit-clause-err
unfolding chars
returns-then-is_unit-clause-err c = default-team c.args.self.now c.args.team c.args.user c.in_ok-why.why (search rules) (search rules) c.in_ok-why.ensures
