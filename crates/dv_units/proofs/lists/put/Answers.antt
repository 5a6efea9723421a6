use Rattle.dv_units.proofs.ListLaws.{at-put}
use Rattle.dv_units.proofs.lists.put.Goals as goal

pub returns-clause-gets : goal.returns-clause-gets
returns-clause-gets g c = at-put c.args.id c.args.value c.args.list.now.entries c.insert.new.self.entries c.in_ok-insert.ensures.updates.0
