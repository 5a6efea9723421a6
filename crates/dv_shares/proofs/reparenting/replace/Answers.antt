use Rattle.std.proofs.Common.{sym, ap, subst, ◌∙◌}
use Rattle.std.proofs.lemmas.Result.{on_ok_weaker, IfErr-weaker}
use Rattle.dv_shares.specs.Handing.{all_inherit}
use Rattle.dv_shares.specs.Inheriting.{Reparents}
use Rattle.dv_shares.proofs.Limits.{refused_to}
use Rattle.dv_shares.proofs.Reparented.{reparents}
use Rattle.dv_shares.proofs.reparenting.replace.Goals as goal

pub returns-clause-ok : goal.returns-clause-ok
returns-clause-ok c =
    let w = c.args.store.now.present in
    let mid = c.disinherit_all.new.store.present in
    let made = reparents w c.args.definition.now c.args.moved c.args.set.now c.requires.set.exactly c.requires.owned c.requires.no_circle c.in_ok-heirs.heirs.items mid c.in_ok-heirs.ensures c.in_default.ensures.grants in
    on_ok_weaker c.inherit_all.result
    (λ all. subst (Reparents c.args.definition.now c.args.moved w) (sym (all.present ∙ ap (λ heirs. all_inherit heirs mid) c.as_slice.ensures.value)) made) c.inherit_all.ensures.ok

pub returns-clause-err : goal.returns-clause-err
returns-clause-err c =
    let w = c.args.store.now.present in
    let mid = c.disinherit_all.new.store.present in
    let made = reparents w c.args.definition.now c.args.moved c.args.set.now c.requires.set.exactly c.requires.owned c.requires.no_circle c.in_ok-heirs.heirs.items mid c.in_ok-heirs.ensures c.in_default.ensures.grants in
    IfErr-weaker c.inherit_all.result _ _
    (λ fault refused. refused_to (Reparents c.args.definition.now c.args.moved w) (all_inherit c.as_slice.result.now mid) fault (subst (λ heirs. Reparents c.args.definition.now c.args.moved w (all_inherit heirs mid)) (sym c.as_slice.ensures.value) made) refused)
    c.inherit_all.ensures.err
