use Rattle.std.proofs.Common.{length, ◌-◌, ◌≡◌, ◌≤◌, take}
use Rattle.std.specs.Io.KnownBytes.{append_known}
use Rattle.dv_base.proofs.sending.send.Given as goal

-- the first `sent` bytes of the piece were written, and the rest of what the sink tells is as before
abbrev pub invariant-loop-sent : goal.invariant-loop-sent
invariant-loop-sent g l = record {
  within : l.sent ≤ length l.bytes;
  written : g.W.Ends.written l.output ≡ append_known (g.W.Ends.written l.fn.output) (take l.sent l.bytes);
  steady : g.W.Ends.write_faults l.output ≡ g.W.Ends.write_faults l.fn.output;
  left : g.W.Ends.left l.output ≡ g.W.Ends.left l.fn.output;
  read_faults : g.W.Ends.read_faults l.output ≡ g.W.Ends.read_faults l.fn.output;
}

abbrev pub decreases-loop-sent : goal.decreases-loop-sent
decreases-loop-sent g l = length l.bytes - l.sent
