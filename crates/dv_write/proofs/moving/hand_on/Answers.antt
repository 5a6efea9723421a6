use Rattle.std.proofs.Common.{subst, sym}
use Rattle.dv_store.specs.Keys.{row_cmp}
use Rattle.dv_cascade.specs.declared.cascading.Cascading.TheVariants.{Reparent}
use Rattle.dv_cascade.specs.Chains.{AreExactly, IsReached}
use Rattle.dv_cascade.proofs.OneParent.{has_one_parent}
use Rattle.dv_shares.specs.Inheriting.{Reparents}
use Rattle.dv_write.proofs.Settled.{all_owned, limit_told, moved_sound}
use Rattle.dv_write.proofs.moving.hand_on.Goals as goal

pub reparent-requires-clause-owned : goal.reparent-requires-clause-owned
reparent-requires-clause-owned c =
    let w = c.args.store.now.present in
    let d = c.args.definition.now in
    all_owned d w c.args.key c.as_slice.result.now c.requires.sound c.requires.owned
    (subst (AreExactly row_cmp (IsReached w d Reparent c.args.key)) (sym c.as_slice.ensures.value) c.in_ok-set.ensures)

pub reparent-requires-clause-one_parent : goal.reparent-requires-clause-one_parent
reparent-requires-clause-one_parent c = has_one_parent c.args.definition.now c.requires.sound.definition

pub returns-in-Ok-clause-sound : goal.returns-in-Ok-clause-sound
returns-in-Ok-clause-sound c = moved_sound c.args.definition.now c.args.key c.args.store.now.present c.reparent.new.store.present c.requires.sound c.in-Ok.ensures.ok

pub returns-clause-limit : goal.returns-clause-limit
returns-clause-limit c = limit_told (Reparents c.args.definition.now c.args.key c.args.store.now.present) c.args.store.now.present c.in-Err.fault c.stop_of.result c.in-Err.ensures.err c.stop_of.ensures
