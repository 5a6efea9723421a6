use Rattle.dv_cascade.proofs.Blocked.{first_alike}
use Rattle.dv_cascade.proofs.blocking.first_restrict.Goals as goal

pub returns : goal.returns
returns c = first_alike c.args.store.now.present c.args.definition.now c.in_ok-rows.rows c.args.set.now c.in_ok-rows.ensures c.first_blocking.result c.first_blocking.ensures
