use Rattle.std.proofs.Common.{subst}
use Rattle.std.proofs.lemmas.Result.{IfOk-weaker}
use Rattle.dv_request.specs.declared.reply.Reply.TheVariants.{Done}
use Rattle.dv_units.specs.Outcome.{IsFaultOf}
use Rattle.dv_service.specs.Answers.{refused}
use Rattle.dv_service.specs.Managing.{managed}
use Rattle.dv_service.proofs.Served.{Manages-done, Manages-refused}
use Rattle.dv_service.proofs.org.Org.manage.Goals as goal

pub returns-in_ok-line-in-Ok-clause-ok : goal.returns-in_ok-line-in-Ok-clause-ok
returns-in_ok-line-in-Ok-clause-ok c = (Done, rw (← c.self.view_is) (Manages-done _ _ c.in-Ok.directory c.in-Ok.ensures.ok), c.in_ok-line-in-Ok.ensures)

pub returns-in-Err-Refused-clause-ok : goal.returns-in-Err-Refused-clause-ok
returns-in-Err-Refused-clause-ok c =
    let why = subst (IsFaultOf (managed c.self.inside.definition c.self.inside.directory c.args.user c.args.request.now)) c.in-Err-Refused.field-0-is c.in-Err-Refused.ensures.err in
    IfOk-weaker c.refusal_line.result _ _ (λ line e. (refused c.in-Err-Refused.refusal, rw (← c.self.view_is) (Manages-refused _ _ c.in-Err-Refused.refusal why), e)) c.refusal_line.ensures
