use Rattle.std.proofs.Common.{◌≡◌, ◌≤◌, ◌-◌, List, ℕ, length}
use Rattle.std.specs.Io.KnownBytes.{prepend_known}
use Rattle.dv_service.specs.Outside.{outside}
use Rattle.dv_service.specs.Sessions.{Stands}
use Rattle.dv_service.specs.declared.run.TheConstants.{INPUT_LIMIT}
use Rattle.dv_service.proofs.run.run.Given as goal

-- some bytes were taken, the session stands behind them, and no fault was counted
abbrev pub invariant-loop-taken : goal.invariant-loop-taken
invariant-loop-taken g l = record {
  bytes : List ℕ;
  took : g.S.Ends.left l.fn.input ≡ prepend_known bytes (g.S.Ends.left l.input);
  count : length bytes ≡ l.taken;
  within : l.taken ≤ INPUT_LIMIT;
  stands : Stands l.session bytes (outside (g.W.Ends.written l.fn.output) (g.C.Clock.state l.fn.clock)) (outside (g.W.Ends.written l.output) (g.C.Clock.state l.clock));
  reads : g.S.Ends.read_faults l.input ≡ g.S.Ends.read_faults l.fn.input;
  writes : g.W.Ends.write_faults l.output ≡ g.W.Ends.write_faults l.fn.output;
}

abbrev pub decreases-loop-taken : goal.decreases-loop-taken
decreases-loop-taken g l = INPUT_LIMIT - l.taken
