use Rattle.std.proofs.Common.{ap, Err}
use Rattle.dv_service.proofs.Leaving.{AnswersLine-begun, AnswersLine-declined}
use Rattle.dv_service.proofs.session.begin_by.Goals as goal

pub returns-in-Ok-clause-answers : goal.returns-in-Ok-clause-answers
returns-in-Ok-clause-answers g c = λ clock line held.
    AnswersLine-begun line _ _ _ clock c.keep_begun.result _ (c.in-Ok.ensures.ok line (c.line.ensures line held)) c.keep_begun.ensures.tells

pub returns-in-Err-Bad-clause-answers : goal.returns-in-Err-Bad-clause-answers
returns-in-Err-Bad-clause-answers g c = λ clock line held.
    AnswersLine-declined line _ _ _ clock c.refuse_definition.result _ _ (c.in-Err-Bad.ensures.bad line (c.line.ensures line held) _ _ (ap Err c.in-Err-Bad.field-0-is)) c.refuse_definition.ensures.refuses
