use Rattle.cascade_cases.proofs.Descending.{scene_begun}
use Rattle.dv_cascade.proofs.OneParent.{has_one_parent}
use Rattle.cascade_cases.proofs.scene.Scene.read.Goals as goal

pub invariant_of-result : goal.invariant_of-result
invariant_of-result c = scene_begun c.in_ok-definition.definition c.in_ok-store.store.present (has_one_parent c.in_ok-definition.definition c.in_ok-definition.ensures) c.in_ok-store.ensures.present
