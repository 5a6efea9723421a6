use Rattle.std.proofs.Common.{rules}
use Rattle.dv_units.proofs.TeamLaws.{default-first}
use Rattle.dv_units.proofs.units.Units.default_past.Goals as goal

pub returns-then-is_past : goal.returns-then-is_past
returns-then-is_past c = default-first c.args.self.now c.args.user c.args.after c.in-Some.found.now (search rules) (search rules)
