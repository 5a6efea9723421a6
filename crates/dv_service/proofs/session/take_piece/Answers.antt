use Rattle.std.proofs.Common.{◌∙◌}
use Rattle.dv_service.proofs.Leaving.{Leaves-within}
use Rattle.dv_service.proofs.Streams.{Stands-more, Stands-whole}
use Rattle.dv_service.proofs.Telling.{Ok-Err}
use Rattle.dv_service.proofs.session.take_piece.Goals as goal

pub returns-in-Err-clause-takes : goal.returns-in-Err-clause-takes
returns-in-Err-clause-takes g c = λ taken before stands.
    Leaves-within c.in-Err.stop _ _ taken c.args.piece.now c.loop-byte.byte-index before _ c.loop-byte-test.true
    (c.in-Err.ensures.takes _ before (c.loop-byte.invariant.stands taken before stands))

pub loop-byte-preserved : goal.loop-byte-preserved
loop-byte-preserved g c = record {
  stands = λ taken before stands. Stands-more _ taken c.args.piece.now c.loop-byte.byte-index before _ c.loop-byte-test.true
      (c.in-Ok.ensures.takes _ before (c.loop-byte.invariant.stands taken before stands));
  steady = c.in-Ok.ensures.fault.steady (Ok-Err _) ∙ c.loop-byte.invariant.steady;
}

pub returns-clause-takes : goal.returns-clause-takes
returns-clause-takes g c = λ taken before stands.
    Stands-whole _ taken c.args.piece.now c.loop-byte.byte-index before _ c.loop-byte-test.false (c.loop-byte.invariant.stands taken before stands)
