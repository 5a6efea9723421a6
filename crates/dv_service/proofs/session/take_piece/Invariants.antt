use Rattle.std.proofs.Common.{◌≡◌, ◌++◌, take, List, ℕ}
use Rattle.dv_service.specs.Outside.{Outside, outside}
use Rattle.dv_service.specs.Sessions.{Stands}
use Rattle.dv_service.proofs.session.take_piece.Given as goal

-- the session stands behind the bytes before this one, and no fault was counted
abbrev pub invariant-loop-byte : goal.invariant-loop-byte
invariant-loop-byte g l = record {
  stands : (taken : List ℕ) (before : Outside) → Stands l.fn.session taken before (outside (g.W.Ends.written l.fn.output) (g.C.Clock.state l.fn.clock))
      → Stands l.session (taken ++ take l.byte-index l.piece) before (outside (g.W.Ends.written l.output) (g.C.Clock.state l.clock));
  steady : g.W.Ends.write_faults l.output ≡ g.W.Ends.write_faults l.fn.output;
}
