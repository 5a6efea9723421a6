use Rattle.std.proofs.Common.{◌≡◌, ◌≤◌, ap, sym, subst, refl, ◌∙◌, arith}
use Rattle.std.specs.Prelude.{true}
use Rattle.std.specs.FinMap as map
use Rattle.dv_store.specs.World.{most_grants, grant_set}
use Rattle.dv_store.specs.Kept.{with_count, IsWell}
use Rattle.dv_store.proofs.Written.{on_ok}
use Rattle.dv_store.proofs.Grants.{few_without, len-set, world-with_grant, IsWell-without_grant}
use Rattle.dv_store.proofs.removing.drop_grant.Goals as goal

pub returns-clause-ok : goal.returns-clause-ok
returns-clause-ok c =
    let p = c.args.cells.now.present in
    let n = c.grants_after-grants.result in
    let set : map.len (map.remove p.world.grants c.args.key) ≡ map.len (grant_set p.world c.args.key 0 0).grants = len-set p.world c.args.key 0 0 true refl in
    let few : map.len (map.remove p.world.grants c.args.key) ≤ 500000 = few_without p c.args.key c.requires in
    let at_most : n ≤ most_grants = omega (arith, set, few, c.grants_after-grants.ensures) in
    on_ok c.take_grant.result c.take_grant.ensures.ok (λ ok. record {
      world = ap (λ h. h.present.world) ok ∙ world-with_grant (with_count p n) c.args.key 0 0;
      well = subst IsWell (sym (ap (λ h. h.present) ok)) (IsWell-without_grant p c.args.key 0 0 c.requires n c.grants_after-grants.ensures at_most refl);
      earlier = ap (λ h. h.earlier) ok;
    })
