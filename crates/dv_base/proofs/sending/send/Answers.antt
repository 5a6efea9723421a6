use Rattle.std.proofs.Common.{arith, length-drop}
use Rattle.std.proofs.lemmas.Grind.{common_steps}
use Rattle.std.proofs.lemmas.List.{take_rest}
use Rattle.dv_base.proofs.KnownBytesLaws.{append_known-parts}
use Rattle.dv_base.proofs.sending.send.Goals as goal

pub loop-sent-preserved : goal.loop-sent-preserved
loop-sent-preserved g c = record {
  within = grind (arith, common_steps, length-drop);
  written = rw (c.in_ok-sent.ensures.taken, c.loop-sent.invariant.written, take_rest c.args.bytes.now c.loop-sent.sent)
      (append_known-parts (g.W.Ends.written c.args.output.now) c.loop-sent.sent c.in_ok-sent.field-0 c.args.bytes.now);
  steady = rw (c.in_ok-sent.ensures.cause.steady, c.loop-sent.invariant.steady);
  left = rw (c.in_ok-sent.ensures.left, c.loop-sent.invariant.left);
  read_faults = rw (c.in_ok-sent.ensures.read_faults, c.loop-sent.invariant.read_faults);
}
