use Rattle.cascade_cases.proofs.Descending.{no_circle, scene_reparented}
use Rattle.cascade_cases.proofs.scene.Scene.reparent.Goals as goal

pub reparent-requires-clause-no_circle : goal.reparent-requires-clause-no_circle
reparent-requires-clause-no_circle c = no_circle c.self.inside.store.present c.self.inside.definition (c.self.invariant.known c.if-not-self.false)

pub invariant_of-self : goal.invariant_of-self
invariant_of-self c = scene_reparented c.self.inside.definition c.reparent.result c.args.moved c.self.inside.store c.reparent.new.store c.self.inside.descends c.reparent.ensures.ok c.reparent.ensures.kept c.self.invariant
