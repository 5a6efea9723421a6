-- How the reply to a line is told: by its line, or by a fault whose reply is at hand.
use Rattle.std.specs.Prelude.{◌≡◌, ℕ, List, Result, Ok, Err}
use Rattle.dv_refusal.specs.declared.refusal.Refusal.TheVariants as refusal
use Rattle.dv_request.specs.declared.reply.Reply.{Reply}
use Rattle.dv_service.specs.Answers.{answer_line, refused}
use Rattle.dv_service.specs.declared.answer.Answer.TheVariants.{Replied}
use Rattle.dv_service.specs.declared.serving.LineFault.{LineFault}
use Rattle.dv_service.specs.declared.serving.LineFault.TheVariants.{Clock, Memory}

-- A result tells a reply that is meant: the text is that reply's line; a fault of the clock, and running out of memory,
-- tell the refusals of those.
abbrev pub Tells : {T : Type 0} → Result T LineFault → (T → List ℕ) → (Reply → Type 0) → Type 0
Tells (Ok line) text means = (reply : Reply) × means reply × (text line ≡ answer_line (Replied reply))
Tells (Err Clock) text means = means (refused refusal.ClockFault)
Tells (Err Memory) text means = means (refused refusal.OutOfMemory)
