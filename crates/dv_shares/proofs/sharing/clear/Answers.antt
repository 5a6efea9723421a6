use Rattle.std.proofs.Common.{ap, subst, ◌∙◌}
use Rattle.std.proofs.lemmas.Result.{on_ok_weaker}
use Rattle.dv_shares.specs.declared.change.Change.TheVariants.{Clear, ClearInherited}
use Rattle.dv_shares.specs.Outcome.{Makes}
use Rattle.dv_shares.specs.Steps.{one_changed, others_changed}
use Rattle.dv_shares.proofs.Marks.{makes-on}
use Rattle.dv_shares.proofs.Results.{others_changed-one_changed}
use Rattle.dv_shares.proofs.sharing.clear.Goals as goal

pub returns-clause-ok : goal.returns-clause-ok
returns-clause-ok c =
    let start = c.args.store.now in
    let mid = c.change_one.new.store in
    let end = c.change_others.new.store in
    let one = c.in_ok-change_one.ensures.ok in
    let whole = ap (others_changed c.args.target c.args.principal ClearInherited c.args.set.now) one.present ∙ others_changed-one_changed c.args.set.now c.args.target c.args.principal Clear ClearInherited start.present in
    on_ok_weaker c.change_others.result (λ made. subst (Makes start end) whole (makes-on start mid end (one_changed c.args.principal Clear c.args.target start.present) (others_changed c.args.target c.args.principal ClearInherited c.args.set.now mid.present) one made)) c.change_others.ensures.ok
