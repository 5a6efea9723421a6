use Rattle.std.proofs.Common.{chars, Some, refl, ap, subst, ◌∙◌}
use Rattle.dv_refusal.specs.declared.refusal.Refusal.TheVariants as answer
use Rattle.dv_query_check.specs.Faults.{refusal_of, IsTold}
use Rattle.dv_query_check.specs.Queries.{first_fault}
use Rattle.dv_pipeline.specs.Querying.{query_fault}
use Rattle.dv_pipeline.proofs.Telling.{none_is_fine, told_is_refused}
use Rattle.dv_pipeline.proofs.query.Asked.check_form.Goals as goal

pub returns-in-Ok : goal.returns-in-Ok
unfolding query_fault
returns-in-Ok c = none_is_fine _ (first_fault c.args.self.now.definition.now c.args.self.now.query.now) c.in-Ok.ensures.ok

pub returns-in_ok-from_str-in-Err-BadQuery : goal.returns-in_ok-from_str-in-Err-BadQuery
unfolding query_fault
returns-in_ok-from_str-in-Err-BadQuery c =
    ap (λ word. Some (answer.BadQuery word c.in-Err-BadQuery.part)) (c.in_ok-from_str-in-Err-BadQuery.ensures ∙ ap chars c.word.ensures)
    ∙ told_is_refused refusal_of _ (λ fault. refl) (first_fault c.args.self.now.definition.now c.args.self.now.query.now) c.in-Err-BadQuery.part c.in-Err-BadQuery.kind
    (subst (IsTold (first_fault c.args.self.now.definition.now c.args.self.now.query.now)) c.in-Err-BadQuery.field-0-is c.in-Err-BadQuery.ensures.refused)
