use Rattle.std.proofs.Common.{refl}
use Rattle.dv_service.proofs.Held.{Held_none}
use Rattle.dv_service.proofs.line_buffer.LineBuffer.new.Goals as goal

pub returns : goal.returns
returns c = Held_none _ c.in_ok-with_capacity.ensures.items refl
