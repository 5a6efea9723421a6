use Rattle.std.proofs.Common.{FitsSigned, w64}
use Rattle.std.proofs.lemmas.Int.{to_z-of_z}
use Rattle.std.proofs.lemmas.Result.{IfOk-weaker}
use Rattle.dv_message.specs.Scenes.{OnRow}
use Rattle.dv_pipeline.specs.Run.{Plays}
use Rattle.dv_pipeline.proofs.Staying.{stays_sound_on_ok}
use Rattle.dv_pipeline.proofs.writing.run_grant.Goals as goal

pub returns-in-Ok-clause-ok : goal.returns-in-Ok-clause-ok
unfolding Plays OnRow
returns-in-Ok-clause-ok c =
    let fits : FitsSigned w64 c.args.rights = c.ranges.rights in
    let runs = simp to_z-of_z at c.grant.ensures.ok in
    IfOk-weaker c.grant.result _ _ (λ reply e. rw (c.in-Ok.ensures.ok c.args.store.now.present) e) runs

pub returns-in-Ok-clause-refused : goal.returns-in-Ok-clause-refused
unfolding Plays OnRow
returns-in-Ok-clause-refused c = λ refusal is.
    let fits : FitsSigned w64 c.args.rights = c.ranges.rights in
    let runs = simp to_z-of_z at (c.grant.ensures.refused refusal is) in
    rw (c.in-Ok.ensures.ok c.args.store.now.present) runs

pub returns-in-Ok-clause-sound : goal.returns-in-Ok-clause-sound
returns-in-Ok-clause-sound c = stays_sound_on_ok c.args.scene.now.definition.now c.args.store.now.present c.grant.new.store.present c.requires c.grant.result c.grant.ensures.shape c.grant.ensures.rows
