use Rattle.std.proofs.Common.{◌≤◌, ap, sym, subst, ◌∙◌, arith}
use Rattle.dv_store.specs.World.{most_grants}
use Rattle.dv_store.specs.Kept.{with_count, IsWell}
use Rattle.dv_store.proofs.Grants.{world-with_grant, IsWell-with_grant}
use Rattle.dv_store.proofs.granting.set_grant.Goals as goal

pub returns-in-Ok-clause-ok : goal.returns-in-Ok-clause-ok
returns-in-Ok-clause-ok c =
    let p = c.args.cells.now.present in
    let n = c.grants_after-grants.result in
    let few : n ≤ most_grants = omega (arith, c.if-grants-gt-MOST_GRANTS.false) in
    record {
      world = ap (λ h. h.present.world) c.in-Ok.ensures.ok ∙ world-with_grant (with_count p n) c.args.key c.args.direct c.args.inherited;
      well = subst IsWell (sym (ap (λ h. h.present) c.in-Ok.ensures.ok)) (IsWell-with_grant p c.args.key c.args.direct c.args.inherited c.requires.well n c.grants_after-grants.ensures few c.requires.stands);
      earlier = ap (λ h. h.earlier) c.in-Ok.ensures.ok;
    }
