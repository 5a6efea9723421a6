use Rattle.std.proofs.Common.{sym}
use Rattle.dv_service.proofs.Held.{front_of-one, has_content-one}
use Rattle.dv_service.proofs.line_buffer.LineBuffer.add.Goals as goal

pub returns : goal.returns
returns c = λ p h. record {
  front = rw (c.push_within.ensures.items, h.front) (sym (front_of-one p c.args.byte));
  content = rw (c.is_blank.ensures, h.content) (sym (has_content-one p c.args.byte));
}
