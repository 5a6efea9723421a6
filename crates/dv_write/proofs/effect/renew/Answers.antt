use Rattle.dv_write.proofs.Limits.{both_limits}
use Rattle.dv_write.proofs.effect.renew.Goals as goal

pub returns-clause-limit : goal.returns-clause-limit
returns-clause-limit c = both_limits c.args.store.now.present c.put_renewed.new.store.present c.args.key c.args.row c.take_version.result c.in-Ok.ensures.ok c.in-Ok.ensures.limit c.take_version.ensures.limit
