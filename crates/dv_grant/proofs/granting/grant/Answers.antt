use Rattle.std.proofs.Common.{◌≡◌, ap, subst, w64}
use Rattle.std.proofs.lemmas.Int.{to_z-of_z}
use Rattle.std.specs.Prelude.{Result, Ok, Err, None}
use Rattle.dv_request.specs.declared.reply.Reply.{Reply}
use Rattle.dv_message.specs.declared.stop.Stop.{Stop}
use Rattle.dv_message.specs.declared.stop.Stop.TheVariants.{Refused}
use Rattle.dv_message.specs.Checked.{AllPass, Walked}
use Rattle.dv_shares.specs.Outcome.{LimitSays}
use Rattle.dv_grant.specs.Granting.{granting_in, GrantSays, grant_checks, IsGranted, IsStopped}
use Rattle.dv_grant.proofs.Making.{is_done, is_refused, is_limited}
use Rattle.dv_grant.proofs.granting.grant.Goals as goal

abbrev stop_in : Result Reply Stop → Stop → Stop
stop_in (Ok reply) other = other
stop_in (Err stop) other = stop

pub returns-in-Err-clause-refused : goal.returns-in-Err-clause-refused
returns-in-Err-clause-refused c = λ refusal is.
    let world = c.args.store.now.present in
    let g = granting_in world c.args.target.now c.args.principal c.args.rights in
    let e : c.in-Err.stop ≡ Refused refusal = ap (λ r. stop_in r c.in-Err.stop) is in
    is_refused g (IsGranted g) e (subst (λ rights. Walked {T = Unit {0}} (GrantSays (granting_in world c.args.target.now c.args.principal rights)) grant_checks (Err c.in-Err.stop)) (to_z-of_z w64 c.args.rights c.ranges.rights) c.in-Err.ensures)

pub returns-in-Ok-add-clause-ok : goal.returns-in-Ok-add-clause-ok
returns-in-Ok-add-clause-ok c =
    let world = c.args.store.now.present in
    let g = granting_in world c.args.target.now c.args.principal c.args.rights in
    let z = to_z-of_z w64 c.args.rights c.ranges.rights in
    is_done g (IsGranted g)
    (subst (λ rights. AllPass (GrantSays (granting_in world c.args.target.now c.args.principal rights)) grant_checks) z c.in-Ok.ensures)
    (subst (λ rights. LimitSays (IsGranted (granting_in world c.args.target.now c.args.principal rights)) world None) z c.in-Ok-add.ensures.within)
    (subst (λ rights. IsGranted (granting_in world c.args.target.now c.args.principal rights) c.add.new.store.present) z c.in-Ok-add.ensures.ok)

pub returns-in-Err-add-clause-refused : goal.returns-in-Err-add-clause-refused
returns-in-Err-add-clause-refused c = λ refusal is.
    let world = c.args.store.now.present in
    let g = granting_in world c.args.target.now c.args.principal c.args.rights in
    let z = to_z-of_z w64 c.args.rights c.ranges.rights in
    let e : c.in-Err-add.stop ≡ Refused refusal = ap (λ r. stop_in r c.in-Err-add.stop) is in
    is_limited g (IsGranted g) e
    (subst (λ rights. AllPass (GrantSays (granting_in world c.args.target.now c.args.principal rights)) grant_checks) z c.in-Ok.ensures)
    (subst (λ rights. IsStopped (IsGranted (granting_in world c.args.target.now c.args.principal rights)) world c.in-Err-add.stop) z c.in-Err-add.ensures.err)
