use Rattle.std.proofs.Common.{sym, subst}
use Rattle.std.proofs.lemmas.Result.{on_ok_weaker, IfErr-weaker}
use Rattle.dv_shares.specs.Handing.{AreShares, handed_by}
use Rattle.dv_shares.specs.Outcome.{Makes, MayRefuse}
use Rattle.dv_shares.proofs.Adding.{inherits-none, inherits-shares}
use Rattle.dv_shares.proofs.Marks.{makes-same}
use Rattle.dv_shares.proofs.inheriting.inherit.Goals as goal

pub returns-in_default-clause-ok : goal.returns-in_default-clause-ok
returns-in_default-clause-ok c = let now = c.args.store.now in subst (Makes now now) (sym (inherits-none c.args.heir now.present c.in_default.is)) (makes-same now)

pub returns-clause-ok : goal.returns-clause-ok
returns-clause-ok c =
    let now = c.args.store.now in
    let same = inherits-shares c.args.heir c.in-Some.parent c.as_slice.result.now now.present c.in-Some.is (subst (AreShares (handed_by now.present c.in-Some.parent)) (sym c.as_slice.ensures.value) c.in_ok-shares.ensures) in
    on_ok_weaker c.add_each.result (λ made. subst (Makes now c.add_each.new.store) same made) c.add_each.ensures.ok

pub returns-clause-err : goal.returns-clause-err
returns-clause-err c =
    let now = c.args.store.now in
    let same = inherits-shares c.args.heir c.in-Some.parent c.as_slice.result.now now.present c.in-Some.is (subst (AreShares (handed_by now.present c.in-Some.parent)) (sym c.as_slice.ensures.value) c.in_ok-shares.ensures) in
    IfErr-weaker c.add_each.result _ _ (λ fault refused. subst (λ w. MayRefuse w fault) same refused) c.add_each.ensures.err
