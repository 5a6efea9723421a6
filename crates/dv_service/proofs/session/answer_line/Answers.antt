use Rattle.std.proofs.Common.{refl, sym, ◌∙◌, ap, Err}
use Rattle.dv_refusal.specs.declared.refusal.Refusal.TheVariants.{ClockFault, OutOfMemory}
use Rattle.dv_service.specs.Answers.{refused}
use Rattle.dv_service.specs.declared.answer.Answer.TheVariants.{Replied}
use Rattle.dv_service.proofs.Leaving.{AnswersLine-step}
use Rattle.dv_service.proofs.Runs.{answer_line-memory, answer_line-clock}
use Rattle.dv_service.proofs.session.answer_line.Goals as goal

pub returns-in-Ok-clause-answers : goal.returns-in-Ok-clause-answers
returns-in-Ok-clause-answers g c = λ line held.
    let served = c.in-Ok.ensures.ok line (c.line.ensures line held) in
    AnswersLine-step c.write_line.result _ line _ (Replied served.0) c.serve_line.new.org _ _ (served.0, refl, served.1) (c.as_slice.ensures.value ∙ served.2) c.write_line.ensures.wrote

pub returns-in-Err-Clock-clause-answers : goal.returns-in-Err-Clock-clause-answers
returns-in-Err-Clock-clause-answers g c = λ line held.
    AnswersLine-step c.write_line-in-Err-Clock.result _ line _ (Replied (refused ClockFault)) c.serve_line.new.org _ _
    (refused ClockFault, refl, c.in-Err-Clock.ensures.clock line (c.line.ensures line held) (ap Err c.in-Err-Clock.field-0-is)) (sym answer_line-clock) c.write_line-in-Err-Clock.ensures.wrote

pub returns-in-Err-Memory-clause-answers : goal.returns-in-Err-Memory-clause-answers
returns-in-Err-Memory-clause-answers g c = λ line held.
    AnswersLine-step c.write_line-in-Err-Memory.result _ line _ (Replied (refused OutOfMemory)) c.serve_line.new.org _ _
    (refused OutOfMemory, refl, c.in-Err-Memory.ensures.memory line (c.line.ensures line held) (ap Err c.in-Err-Memory.field-0-is)) (sym answer_line-memory) c.write_line-in-Err-Memory.ensures.wrote
