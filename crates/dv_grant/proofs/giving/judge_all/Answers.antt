use Rattle.std.proofs.Common.{drop, subst, sym, w64}
use Rattle.std.proofs.lemmas.Int.{to_z-of_z}
use Rattle.std.specs.Prelude.{Ok}
use Rattle.dv_message.specs.Checked.{AllPass}
use Rattle.dv_message.proofs.Walking.{drop_past}
use Rattle.dv_grant.specs.Granting.{granting_in, GrantSays}
use Rattle.dv_grant.proofs.giving.judge_all.Goals as goal

pub returns : goal.returns
unfolding AllPass
returns c =
    let world = c.args.store.now.present in
    let checks = c.args.checks.now in
    let i = c.loop-check.check-index in
    let z = to_z-of_z w64 c.args.rights c.ranges.rights in
    let rest : AllPass (GrantSays (granting_in world c.args.target.now c.args.principal c.args.rights)) (drop i checks)
    = subst (AllPass (GrantSays (granting_in world c.args.target.now c.args.principal c.args.rights))) (sym (drop_past checks i c.loop-check-test.false)) tt in
    subst (λ rights. AllPass (GrantSays (granting_in world c.args.target.now c.args.principal rights)) checks) z
    (c.loop-check.invariant (Ok tt) (subst (λ rights. AllPass (GrantSays (granting_in world c.args.target.now c.args.principal rights)) (drop i checks)) (sym z) rest))
