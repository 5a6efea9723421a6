use Rattle.dv_roles.specs.Reaches.{query_of}
use Rattle.dv_roles.proofs.WalkLaws.{given}
use Rattle.dv_roles.proofs.reach.Reach.give.Goals as goal

pub returns-clause-gives : goal.returns-clause-gives
returns-clause-gives c = rw c.unwrap_or-seat.ensures (given (query_of c.args.self.now) c.args.self.now.team c.args.self.now.depth c.args.depth c.args.self.now.seated c.requires)
