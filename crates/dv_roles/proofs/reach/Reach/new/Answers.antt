use Rattle.dv_roles.proofs.WalkLaws.{at-start}
use Rattle.dv_roles.proofs.reach.Reach.new.Goals as goal

pub returns : goal.returns
returns c = at-start (record { d = c.args.directory.now; user = c.args.user; action = c.args.action; table = c.args.table })
