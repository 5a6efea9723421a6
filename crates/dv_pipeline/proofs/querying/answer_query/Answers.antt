use Rattle.std.proofs.Common.{◌≡◌, ap, inl, subst}
use Rattle.std.specs.Prelude.{Result, Ok, Err}
use Rattle.dv_request.specs.declared.reply.Reply.{Reply}
use Rattle.dv_message.specs.declared.stop.Stop.{Stop}
use Rattle.dv_message.specs.declared.stop.Stop.TheVariants.{Refused}
use Rattle.dv_message.specs.Checked.{Walked}
use Rattle.dv_pipeline.specs.Querying.{querying_in, QuerySays, query_checks}
use Rattle.dv_pipeline.proofs.querying.answer_query.Goals as goal

abbrev stop_in : Result Reply Stop → Stop → Stop
stop_in (Ok reply) other = other
stop_in (Err stop) other = stop

pub returns-in-Err-clause-refused : goal.returns-in-Err-clause-refused
returns-in-Err-clause-refused c = λ refusal is.
    let world = c.args.store.now.present in
    let e : c.in-Err.stop ≡ Refused refusal = ap (λ r. stop_in r c.in-Err.stop) is in
    inl (subst (λ stop. Walked {T = Unit {0}} (QuerySays (querying_in world c.args.asked.now)) query_checks (Err stop)) e (c.in-Err.ensures world))
