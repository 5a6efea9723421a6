use Rattle.std.proofs.Common.{rules, false}
use Rattle.dv_units.proofs.ListLaws.{turns}
use Rattle.dv_units.proofs.lists.take_pair.Goals as goal

pub returns-clause-turns : goal.returns-clause-turns
returns-clause-turns c = turns false c.args.first c.args.second c.args.pairs.now.keys c.args.turned.now.keys c.remove.new.self.keys c.remove-2.new.self.keys (search rules) (search rules)
