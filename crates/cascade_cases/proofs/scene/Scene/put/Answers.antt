use Rattle.std.proofs.Common.{ap}
use Rattle.dv_store.specs.World.{World}
use Rattle.dv_work.specs.History.{History}
use Rattle.cascade_cases.proofs.Descending.{scene_put}
use Rattle.cascade_cases.proofs.scene.Scene.put.Goals as goal

pub invariant_of-self : goal.invariant_of-self
invariant_of-self c =
    scene_put c.self.inside.definition c.self.inside.store.present c.put_row.new.self.present c.args.key c.args.row c.self.inside.descends c.still_descends-self-inside.result c.parent_of-parent.result c.self.invariant
    (ap (λ (h : History World). h.present) c.in-Ok.ensures.ok) c.parent_of-parent.ensures.under c.still_descends-self-inside.ensures
