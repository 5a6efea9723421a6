use Rattle.std.proofs.Common.{ap, sym, subst, ◌∙◌, w64}
use Rattle.std.proofs.lemmas.Int.{to_z-of_z}
use Rattle.dv_shares.specs.Grants.{shared}
use Rattle.dv_grant.specs.Granting.{granting_in, mask_of, IsGranted, IsStopped}
use Rattle.dv_grant.proofs.Making.{granted_as, stays, stopped}
use Rattle.dv_grant.proofs.granting.add.Goals as goal

pub returns-in-Ok-clause-ok : goal.returns-in-Ok-clause-ok
returns-in-Ok-clause-ok c =
    let g = granting_in c.args.store.now.present c.args.target.now c.args.principal c.args.rights in
    subst (IsGranted g) (sym c.in-Ok.ensures.ok.present) (granted_as g c.in_ok-rows.ensures c.as_slice.ensures.value c.key_of.ensures (c.mask_of-mask.ensures ∙ ap mask_of (to_z-of_z w64 c.args.rights c.ranges.rights)))

pub returns-in-Ok-clause-within : goal.returns-in-Ok-clause-within
returns-in-Ok-clause-within c =
    let world = c.args.store.now.present in
    let g = granting_in world c.args.target.now c.args.principal c.args.rights in
    stays (IsGranted g) world c.in-Ok.ensures.ok.present (granted_as g c.in_ok-rows.ensures c.as_slice.ensures.value c.key_of.ensures (c.mask_of-mask.ensures ∙ ap mask_of (to_z-of_z w64 c.args.rights c.ranges.rights))) c.in-Ok.ensures.within

pub returns-clause-err : goal.returns-clause-err
returns-clause-err c =
    let world = c.args.store.now.present in
    let g = granting_in world c.args.target.now c.args.principal c.args.rights in
    subst (IsStopped (IsGranted g) world) (sym c.stop_of.ensures)
    (stopped (IsGranted g) world (granted_as g c.in_ok-rows.ensures c.as_slice.ensures.value c.key_of.ensures (c.mask_of-mask.ensures ∙ ap mask_of (to_z-of_z w64 c.args.rights c.ranges.rights))) c.in-Err.ensures.err)

pub returns-in-Ok-clause-shape : goal.returns-in-Ok-clause-shape
unfolding shared
returns-in-Ok-clause-shape c = ap (λ w. w.shape) c.in-Ok.ensures.ok.present

pub returns-in-Ok-clause-rows : goal.returns-in-Ok-clause-rows
unfolding shared
returns-in-Ok-clause-rows c = ap (λ w. w.rows) c.in-Ok.ensures.ok.present
