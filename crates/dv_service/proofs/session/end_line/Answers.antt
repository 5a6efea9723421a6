use Rattle.std.proofs.Common.{sym, ◌∙◌}
use Rattle.dv_service.specs.Lines.{open_line}
use Rattle.dv_service.proofs.Leaving.{Answered-line, Leaves-unanswered}
use Rattle.dv_service.proofs.session.end_line.Goals as goal

pub returns-in-Ok-clause-ends : goal.returns-in-Ok-clause-ends
returns-in-Ok-clause-ends g c = λ taken before stands. (
  c.clear-in-Ok.ensures,
  Answered-line taken _ _ before _ _ (sym stands.line.content ∙ c.if-not-session.false) stands.answered (c.in-Ok.ensures.answers (open_line taken) stands.line),
)

pub returns-in-Err-clause-ends : goal.returns-in-Err-clause-ends
returns-in-Err-clause-ends g c = λ taken before stands.
    Leaves-unanswered c.in-Err.stop taken _ _ before _ _ _ (sym stands.line.content ∙ c.if-not-session.false) stands.answered (c.in-Err.ensures.answers (open_line taken) stands.line)
