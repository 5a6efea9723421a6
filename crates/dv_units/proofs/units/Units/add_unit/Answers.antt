use Rattle.std.proofs.Common.{rules, arith}
use Rattle.dv_units.proofs.Changes.{unit-added}
use Rattle.dv_units.proofs.units.Units.add_unit.Goals as goal

pub invariant_of-self-2 : goal.invariant_of-self-2
invariant_of-self-2 c =
    let s = c.self.inside in
    unit-added s.units.entries s.users.entries s.teams.entries s.members.keys s.joined.keys c.self.invariant c.args.self.now c.self.view_is c.put.new.list.entries c.args.id c.args.parent c.in_ok-put.ensures.gets
    (search rules) (search rules) (omega arith) c.in_ok-put.ensures.len
