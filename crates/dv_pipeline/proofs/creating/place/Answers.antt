use Rattle.std.proofs.Common.{ap, ◌∙◌}
use Rattle.dv_pipeline.specs.Creating.{creating}
use Rattle.dv_pipeline.proofs.Making.{created_keeps, grants_say}
use Rattle.dv_pipeline.proofs.Staying.{on_ok}
use Rattle.dv_pipeline.proofs.creating.place.Goals as goal

pub returns-clause-limit : goal.returns-clause-limit
returns-clause-limit c = grants_say _ (creating c.args.store.now c.args.creation.now) c.attempt.new.store.present c.args.id c.in-Ok.ensures.within c.in-Ok.ensures.ok c.requires.id c.settle.result c.settle.ensures.limit

pub returns-clause-shape : goal.returns-clause-shape
returns-clause-shape c = on_ok _ _ c.settle.result c.settle.ensures.shape (λ kept. kept ∙ ap (λ w. w.shape) c.in-Ok.ensures.ok ∙ created_keeps (creating c.args.store.now c.args.creation.now))
