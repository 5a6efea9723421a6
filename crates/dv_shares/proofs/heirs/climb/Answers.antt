use Rattle.std.proofs.Common.{reverse, sym, ap, subst}
use Rattle.std.specs.Prelude.{Some}
use Rattle.dv_shares.proofs.Climbing.{Climbs, climb-begun, climb-more, climb-end}
use Rattle.dv_shares.proofs.heirs.climb.Goals as goal

pub parents-init : goal.parents-init
parents-init c =
    let w = c.args.store.now.present in
    let d = c.args.definition.now in
    subst (λ heirs. Climbs w d c.args.row c.args.waiting.now c.args.waiting.now heirs (Some c.args.row)) (ap reverse (sym c.new-path.ensures.items)) (climb-begun w d c.args.row c.args.waiting.now)

pub parents-preserved : goal.parents-preserved
parents-preserved c =
    climb-more c.args.store.now.present c.args.definition.now c.args.row c.args.waiting.now c.parents.waiting c.take.new.waiting c.parents.path.items c.push.new.self.items c.parents.above
    (record { row = c.in-Some.row; parent = c.parent_of-parent.result })
    c.in_ok-push.ensures.items c.in-Some.ensures.row c.in-Some.ensures.left
    (record { parent = c.parent_of-parent.ensures.value; under = c.parent_of-parent.ensures.under c.requires.one_parent })
    c.parents.invariant

pub returns : goal.returns
returns c =
    climb-end c.args.store.now.present c.args.definition.now c.requires.no_circle c.args.row c.args.waiting.now c.parents.waiting c.take.new.waiting _ c.parents.above
    c.in_default.ensures.row c.in_default.ensures.left c.parents.invariant
