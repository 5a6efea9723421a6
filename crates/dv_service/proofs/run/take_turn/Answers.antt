use Rattle.std.proofs.Common.{take, arith, refl, sym, ◌∙◌, []}
use Rattle.dv_base.proofs.KnownBytesLaws.{prepend_known-nil}
use Rattle.dv_service.proofs.Telling.{TellsFault-turn}
use Rattle.dv_service.proofs.Turning.{at_end-of, took_nothing}
use Rattle.dv_service.proofs.run.take_turn.Goals as goal

pub returns-in-Err-clause-turned : goal.returns-in-Err-clause-turned
returns-in-Err-clause-turned g c = λ taken before stands. record {
  piece = [];
  took = sym c.in-Err.ensures.kept ∙ sym (prepend_known-nil _);
  within = omega arith;
  how = (refl, stands);
}

pub returns-then-count-eq0-clause-turned : goal.returns-then-count-eq0-clause-turned
returns-then-count-eq0-clause-turned g c = λ taken before stands. record {
  piece = [];
  took = took_nothing _ _ _ _ c.if-count-eq0.true c.in-Ok.ensures.taken;
  within = omega arith;
  how = (refl, at_end-of _ _ _ _ c.if-count-eq0.true (omega (arith, c.requires, c.read.auto.buf)) c.in-Ok.ensures.taken c.in-Ok.ensures.end, stands);
}

pub returns-in-Ok-take_piece-clause-turned : goal.returns-in-Ok-take_piece-clause-turned
returns-in-Ok-take_piece-clause-turned g c = λ taken before stands. record {
  piece = take c.in-Ok.count c.read.new.buf;
  took = c.in-Ok.ensures.taken;
  within = omega (arith, c.in-Ok.ensures.bound.0, c.in-Ok.ensures.bound.1, c.read.auto.buf);
  how = (sym c.in-Ok.ensures.bound.1, c.in-Ok-take_piece.ensures.takes taken before stands);
}

pub returns-in-Err-take_piece-clause-turned : goal.returns-in-Err-take_piece-clause-turned
returns-in-Err-take_piece-clause-turned g c = λ taken before stands. record {
  piece = take c.in-Ok.count c.read.new.buf;
  took = c.in-Ok.ensures.taken;
  within = omega (arith, c.in-Ok.ensures.bound.0, c.in-Ok.ensures.bound.1, c.read.auto.buf);
  how = c.in-Err-take_piece.ensures.takes taken before stands;
}

pub returns-in-Err-take_piece-clause-write_fault : goal.returns-in-Err-take_piece-clause-write_fault
returns-in-Err-take_piece-clause-write_fault g c = TellsFault-turn c.in-Err-take_piece.stop _ _ c.in-Err-take_piece.ensures.fault
