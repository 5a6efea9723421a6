use Rattle.dv_pipeline.proofs.Staying.{stays_sound_on_ok}
use Rattle.dv_pipeline.proofs.writing.run_revoke.Goals as goal

pub returns-in-Ok-clause-sound : goal.returns-in-Ok-clause-sound
returns-in-Ok-clause-sound c = stays_sound_on_ok c.args.scene.now.definition.now c.args.store.now.present c.revoke.new.store.present c.requires c.revoke.result c.revoke.ensures.shape c.revoke.ensures.rows
