use Rattle.std.proofs.Common.{◌≡◌, refl, ap, subst, ◌∙◌}
use Rattle.std.specs.Prelude.{true}
use Rattle.std.proofs.lemmas.Result.{on_ok_weaker, IfErr-weaker}
use Rattle.dv_shares.specs.declared.change.Change.TheVariants.{AddDirect, AddInherited}
use Rattle.dv_shares.specs.Grants.{granted}
use Rattle.dv_shares.specs.Outcome.{Makes, MayRefuse}
use Rattle.dv_shares.specs.Rights.{adds}
use Rattle.dv_shares.specs.Steps.{one_changed, others_changed}
use Rattle.dv_shares.proofs.Limits.{refused_later, grows-others}
use Rattle.dv_shares.proofs.Marks.{makes-on}
use Rattle.dv_shares.proofs.Results.{others_changed-one_changed}
use Rattle.dv_shares.proofs.sharing.add.Goals as goal

pub returns-in-Err-clause-err : goal.returns-in-Err-clause-err
unfolding adds
returns-in-Err-clause-err c =
    let w = c.args.store.now.present in
    let one = one_changed c.args.principal (AddDirect c.args.mask) c.args.target w in
    let all = others_changed c.args.target c.args.principal (AddInherited c.args.mask) c.args.set.now one in
    subst (λ w. MayRefuse w c.in-Err.fault) (others_changed-one_changed c.args.set.now c.args.target c.args.principal (AddDirect c.args.mask) (AddInherited c.args.mask) w)
    (refused_later one all c.in-Err.fault (grows-others (AddInherited c.args.mask) refl c.args.target c.args.principal c.args.set.now one) c.in-Err.ensures.err)

pub returns-clause-ok : goal.returns-clause-ok
returns-clause-ok c =
    let start = c.args.store.now in
    let mid = c.change_one.new.store in
    let end = c.change_others.new.store in
    let one = c.in_default.ensures.ok in
    let whole = ap (others_changed c.args.target c.args.principal (AddInherited c.args.mask) c.args.set.now) one.present ∙ others_changed-one_changed c.args.set.now c.args.target c.args.principal (AddDirect c.args.mask) (AddInherited c.args.mask) start.present in
    on_ok_weaker c.change_others.result (λ made. subst (Makes start end) whole (makes-on start mid end (one_changed c.args.principal (AddDirect c.args.mask) c.args.target start.present) (others_changed c.args.target c.args.principal (AddInherited c.args.mask) c.args.set.now mid.present) one made)) c.change_others.ensures.ok

pub returns-clause-err : goal.returns-clause-err
unfolding adds
returns-clause-err c =
    let start = c.args.store.now in
    let one = c.in_default.ensures.ok in
    let whole = ap (others_changed c.args.target c.args.principal (AddInherited c.args.mask) c.args.set.now) one.present ∙ others_changed-one_changed c.args.set.now c.args.target c.args.principal (AddDirect c.args.mask) (AddInherited c.args.mask) start.present in
    IfErr-weaker c.change_others.result (λ e. adds (AddInherited c.args.mask) ≡ true → MayRefuse (others_changed c.args.target c.args.principal (AddInherited c.args.mask) c.args.set.now c.change_one.new.store.present) e) (λ e. MayRefuse (granted c.args.set.now c.args.target c.args.principal c.args.mask start.present) e)
    (λ fault refused. subst (λ w. MayRefuse w fault) whole (refused refl)) c.change_others.ensures.err
