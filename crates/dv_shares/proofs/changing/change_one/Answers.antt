use Rattle.std.proofs.Common.{sym, subst}
use Rattle.std.proofs.lemmas.Result.{on_ok_weaker, IfErr-weaker}
use Rattle.dv_store.specs.Keys.{grant_key}
use Rattle.dv_store.specs.World.{grant_set}
use Rattle.dv_shares.specs.Outcome.{Makes, MayRefuse}
use Rattle.dv_shares.proofs.Limits.{refused_here}
use Rattle.dv_shares.proofs.Marks.{makes-same, makes-state}
use Rattle.dv_shares.proofs.Rows.{one-same, one-set}
use Rattle.dv_shares.proofs.changing.change_one.Goals as goal

pub returns-then-are_same-clause-ok : goal.returns-then-are_same-clause-ok
returns-then-are_same-clause-ok c =
    let now = c.args.store.now in
    let same = one-same now.present c.args.principal c.args.row c.args.change (sym c.if-not-can_have_grants.ensures) c.grant-direct.result c.grant-direct.ensures c.changed-after.result c.changed-after.ensures c.if-are_same.ensures in
    subst (Makes now now) (sym same) (makes-same now)

pub returns-clause-ok : goal.returns-clause-ok
returns-clause-ok c =
    let now = c.args.store.now in
    let set = one-set now.present c.args.principal c.args.row c.args.change (sym c.if-not-can_have_grants.ensures) c.grant-direct.result c.grant-direct.ensures c.changed-after.result c.changed-after.ensures c.if-are_same.ensures in
    on_ok_weaker c.set_grant.result (λ made. subst (Makes now c.set_grant.new.self) (sym set) (makes-state now c.set_grant.new.self _ made)) c.set_grant.ensures.ok

pub returns-clause-err : goal.returns-clause-err
returns-clause-err c =
    let now = c.args.store.now in
    let set = one-set now.present c.args.principal c.args.row c.args.change (sym c.if-not-can_have_grants.ensures) c.grant-direct.result c.grant-direct.ensures c.changed-after.result c.changed-after.ensures c.if-are_same.ensures in
    IfErr-weaker c.set_grant.result _ _ (λ fault is. subst (λ w. MayRefuse w fault) (sym set) (refused_here (grant_set now.present (grant_key c.args.row.table c.args.row.id c.args.principal) c.changed-after.result.direct c.changed-after.result.inherited) fault is)) c.set_grant.ensures.err
