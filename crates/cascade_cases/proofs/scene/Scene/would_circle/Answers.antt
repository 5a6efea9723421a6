use Rattle.cascade_cases.proofs.Descending.{no_circle}
use Rattle.cascade_cases.proofs.scene.Scene.would_circle.Goals as goal

pub would_circle-requires-clause-no_circle : goal.would_circle-requires-clause-no_circle
would_circle-requires-clause-no_circle c = no_circle c.self.inside.store.present c.self.inside.definition (c.self.invariant.known c.if-not-self.false)
