use Rattle.std.proofs.Common.{arith, ◌∙◌}
use Rattle.dv_service.proofs.Held.{within_limit-short, within_limit-long}
use Rattle.dv_service.proofs.line_buffer.LineBuffer.line.Goals as goal

pub returns-then-front-le-LINE_LIMIT : goal.returns-then-front-le-LINE_LIMIT
returns-then-front-le-LINE_LIMIT c = λ p h. within_limit-short c.as_slice-front.result.now p (c.as_slice-front.ensures.value ∙ h.front) (omega arith)

pub returns-else-front-le-LINE_LIMIT : goal.returns-else-front-le-LINE_LIMIT
returns-else-front-le-LINE_LIMIT c = λ p h. within_limit-long c.as_slice-front.result.now p (c.as_slice-front.ensures.value ∙ h.front) (omega arith)
