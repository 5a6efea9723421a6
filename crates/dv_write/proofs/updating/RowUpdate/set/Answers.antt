use Rattle.std.proofs.Common.{◌∙◌, ap, subst, sym}
use Rattle.dv_cascade.specs.Sound.{IsSoundWorld}
use Rattle.dv_write.specs.Effects.{applied}
use Rattle.dv_write.specs.Updating.{update_in}
use Rattle.dv_write.proofs.Updated.{update_limit, updated_sound}
use Rattle.dv_write.proofs.updating.RowUpdate.set.Goals as goal

pub settle-requires : goal.settle-requires
settle-requires c =
    let w = c.args.store.now.present in
    let u = update_in w c.args.self.now in
    let made = c.in-Ok.ensures.ok ∙ ap (λ changes. applied changes w) c.requires.changes in
    record { sound = subst (IsSoundWorld u.target.setting.definition) (sym made) (updated_sound u c.requires.sound c.requires.table c.requires.passed) }

pub returns-clause-limit : goal.returns-clause-limit
returns-clause-limit c = update_limit (update_in c.args.store.now.present c.args.self.now) c.key_of-key.result c.parent_of-before.result c.args.changes.now c.make.new.store.present c.settle.result
    c.key_of-key.ensures c.parent_of-before.ensures.value c.requires.changes c.in-Ok.ensures.ok c.in-Ok.ensures.limit c.settle.ensures.limit
