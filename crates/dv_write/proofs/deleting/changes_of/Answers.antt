use Rattle.std.proofs.Common.{sym, subst}
use Rattle.dv_message.specs.Scenes.{targeted_in}
use Rattle.dv_write.specs.Deleting.{AreEmptied}
use Rattle.dv_write.proofs.Removed.{are_ordered}
use Rattle.dv_write.proofs.deleting.changes_of.Goals as goal

pub losses-requires : goal.losses-requires
losses-requires c =
    let t = targeted_in c.args.store.now.present c.args.target.now in
    are_ordered t c.args.set.now c.as_slice.result.now c.requires.closure (subst (λ lookups. AreEmptied t c.args.set.now lookups) (sym c.as_slice.ensures.value) c.in_ok-lookups.ensures)
