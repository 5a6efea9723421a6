use Rattle.dv_pipeline.specs.Creating.{creating_in}
use Rattle.dv_pipeline.proofs.Linking.{created_sound}
use Rattle.dv_pipeline.proofs.Making.{id_is_left}
use Rattle.dv_pipeline.proofs.creating.create.Goals as goal

pub make-requires-clause-left : goal.make-requires-clause-left
make-requires-clause-left c = id_is_left (creating_in c.args.store.now.present c.args.creation.now) c.in-Ok.ensures

pub make-requires-clause-sound : goal.make-requires-clause-sound
make-requires-clause-sound c = created_sound (creating_in c.args.store.now.present c.args.creation.now) c.requires.sound c.requires.table c.in-Ok.ensures
