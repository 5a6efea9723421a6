use Rattle.dv_message.specs.Scenes.{targeted_in}
use Rattle.dv_write.proofs.Blocking.{blocked_is}
use Rattle.dv_write.proofs.deleting.check_blocked.Goals as goal

pub returns : goal.returns
returns c = blocked_is (targeted_in c.args.store.now.present c.args.target.now) c.args.set.now c.in_ok-first.first c.tell_restrict.result c.in_ok-first.ensures c.tell_restrict.ensures
