use Rattle.std.proofs.Common.{◌∙◌, ap}
use Rattle.dv_message.specs.Scenes.{setting_of}
use Rattle.dv_write.specs.Effects.{applied}
use Rattle.dv_write.proofs.Reowned.{on_ok, reowned_sound}
use Rattle.dv_write.proofs.assigning.assign_reached.Goals as goal

pub returns-clause-sound : goal.returns-clause-sound
returns-clause-sound c =
    let w = c.args.store.now.present in
    on_ok c.make.result c.make.ensures.ok (λ is. reowned_sound (setting_of c.args.target.now.scene) c.args.owner c.args.target.now.scene.definition.now w c.make.new.store.present c.as_slice-3.result.now c.requires.sound
    (is ∙ ap (λ cs. applied cs w) (c.as_slice-4.ensures ∙ c.in_ok-changes.ensures)))
