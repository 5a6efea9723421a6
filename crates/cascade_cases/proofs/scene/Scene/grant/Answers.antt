use Rattle.cascade_cases.proofs.Descending.{scene_shared}
use Rattle.cascade_cases.proofs.scene.Scene.grant.Goals as goal

pub invariant_of-self : goal.invariant_of-self
invariant_of-self c = scene_shared c.self.inside.definition c.grant.result _ c.self.inside.store c.grant.new.store c.self.inside.descends c.grant.ensures.each c.grant.ensures.kept c.self.invariant
