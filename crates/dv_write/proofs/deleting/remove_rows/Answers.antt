use Rattle.std.proofs.Common.{◌∙◌, ap}
use Rattle.dv_message.specs.Scenes.{targeted_in}
use Rattle.dv_write.specs.Effects.{applied}
use Rattle.dv_write.proofs.Removed.{removed_sound, unblocked}
use Rattle.dv_write.proofs.Reowned.{on_ok}
use Rattle.dv_write.proofs.deleting.remove_rows.Goals as goal

pub returns-clause-sound : goal.returns-clause-sound
returns-clause-sound c =
    let w = c.args.store.now.present in
    let t = targeted_in w c.args.target.now in
    on_ok c.make.result c.make.ensures.ok (λ is. removed_sound t c.args.set.now c.in_ok-changes.changes c.make.new.store.present c.requires.sound c.requires.closure (unblocked t c.args.set.now c.in-Ok.ensures) c.in_ok-changes.ensures
    (is ∙ ap (λ cs. applied cs w) c.as_slice.ensures))
