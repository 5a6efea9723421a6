use Rattle.std.proofs.Common.{sym, ◌∙◌, ap, Err}
use Rattle.dv_refusal.specs.declared.refusal.Refusal.TheVariants.{Malformed}
use Rattle.dv_service.specs.Serving.{reading_of}
use Rattle.dv_service.proofs.Served.{Tells-refused, Tells-ok, Tells-clock, Tells-memory, Tells-weaker, Served-memory, Served-faulty, Served-read, Memory-Clock}
use Rattle.dv_service.proofs.serving.serve_line.Goals as goal

pub returns-in-Ok-clause-ok : goal.returns-in-Ok-clause-ok
returns-in-Ok-clause-ok g c = λ whole held. Tells-ok _ _ c.serve_request.result (Tells-weaker _ _ _ c.serve_request.result
    (λ reply. Served-read _ whole c.in-Ok.read _ reply _ _ (ap reading_of (sym held) ∙ c.in-Ok.ensures.spelled)) c.serve_request.ensures)

pub returns-in-Ok-clause-clock : goal.returns-in-Ok-clause-clock
returns-in-Ok-clause-clock g c = λ whole held is.
    Served-read _ whole c.in-Ok.read _ _ _ _ (ap reading_of (sym held) ∙ c.in-Ok.ensures.spelled) (Tells-clock _ _ c.serve_request.result c.serve_request.ensures is)

pub returns-in-Ok-clause-memory : goal.returns-in-Ok-clause-memory
returns-in-Ok-clause-memory g c = λ whole held is.
    Served-read _ whole c.in-Ok.read _ _ _ _ (ap reading_of (sym held) ∙ c.in-Ok.ensures.spelled) (Tells-memory _ _ c.serve_request.result c.serve_request.ensures is)

pub returns-in-Err-Malformed-clause-ok : goal.returns-in-Err-Malformed-clause-ok
returns-in-Err-Malformed-clause-ok g c = λ whole held. Tells-ok _ _ c.refuse.result (Tells-refused _ _ c.refuse.result (Malformed c.in-Err-Malformed.place) c.refuse.ensures.line c.refuse.ensures.memory
    (Served-faulty _ _ whole c.in-Err-Malformed.place (ap reading_of (sym held) ∙ c.in-Err-Malformed.ensures.malformed c.in-Err-Malformed.place (ap Err c.in-Err-Malformed.field-0-is)))
    (Served-memory _ _ whole))

pub returns-in-Err-Malformed-clause-clock : goal.returns-in-Err-Malformed-clause-clock
returns-in-Err-Malformed-clause-clock g c = λ whole held is. absurd (Memory-Clock c.refuse.result c.refuse.ensures.memory is)

pub returns-in-Err-Malformed-clause-memory : goal.returns-in-Err-Malformed-clause-memory
returns-in-Err-Malformed-clause-memory g c = λ whole held is. Served-memory _ _ whole

pub returns-in-Err-OutOfMemory-clause-ok : goal.returns-in-Err-OutOfMemory-clause-ok
returns-in-Err-OutOfMemory-clause-ok g c = λ whole held. tt

pub returns-in-Err-OutOfMemory-clause-clock : goal.returns-in-Err-OutOfMemory-clause-clock
returns-in-Err-OutOfMemory-clause-clock g c = λ whole held is. absurd (cc)

pub returns-in-Err-OutOfMemory-clause-memory : goal.returns-in-Err-OutOfMemory-clause-memory
returns-in-Err-OutOfMemory-clause-memory g c = λ whole held is. Served-memory _ _ whole
