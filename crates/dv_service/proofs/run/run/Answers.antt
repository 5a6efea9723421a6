use Rattle.std.proofs.Common.{arith, refl, sym, ◌∙◌, ◌++◌, [], length-append}
use Rattle.std.proofs.lemmas.List.{length-take}
use Rattle.dv_base.proofs.FaultLaws.{Rose-since}
use Rattle.dv_base.proofs.KnownBytesLaws.{prepend_known-nil}
use Rattle.dv_service.proofs.Inputs.{took_more}
use Rattle.dv_service.proofs.Streams.{Stands-none}
use Rattle.dv_service.proofs.Telling.{TellsFault-told, TellsFault-none, TellsFault-since, TellsFault-stopped, Took-ReadFault, Took-Stopped, AtEnd-ReadFault, AtEnd-Stopped, ReadFault-Stopped, Stopped-ReadFault, fault-of-input, limit-read, limit-write}
use Rattle.dv_service.proofs.Turning.{took_none, Ran-finished, Ran-stopped, Finished-ReadFault, ending_of-ReadFault}
use Rattle.dv_service.proofs.run.run.Goals as goal

pub loop-taken-init : goal.loop-taken-init
loop-taken-init g c = record {
  bytes = [];
  took = sym (prepend_known-nil (g.S.Ends.left c.args.input.now));
  count = refl;
  within = omega arith;
  stands = Stands-none _ _ refl c.in-Ok.ensures;
  reads = refl;
  writes = refl;
}

pub loop-taken-preserved : goal.loop-taken-preserved
loop-taken-preserved g c =
    let i = c.loop-taken.invariant in
    let turn = c.in-Took.ensures.turned i.bytes _ i.stands in
    record {
      bytes = i.bytes ++ turn.piece;
      took = took_more _ _ _ i.bytes turn.piece i.took turn.took;
      count = rw length-append (omega (arith, i.count, turn.how.0));
      within =
          let most = (c.in-Took.ensures.count c.in-Took.count refl).1 in
          omega (arith, i.within, c.loop-taken-test.true, simp length-take at most, c.min-room.ensures);
      stands = turn.how.1;
      reads = c.in-Took.ensures.read_fault.steady (Took-ReadFault _) ∙ i.reads;
      writes = c.in-Took.ensures.write_fault.steady (Took-Stopped _ _) ∙ i.writes;
    }

pub returns-in-AtEnd-clause-ran : goal.returns-in-AtEnd-clause-ran
returns-in-AtEnd-clause-ran g c =
    let i = c.loop-taken.invariant in
    let turn = c.in-AtEnd.ensures.turned i.bytes _ i.stands in
    Ran-finished c.finish.result i.bytes _ _ _ _ (took_none _ _ _ i.bytes turn.piece i.took turn.took turn.how.0) turn.how.1
    (omega (arith, i.count, c.loop-taken-test.true)) (c.finish.ensures.finished i.bytes _ turn.how.2)

pub returns-in-AtEnd-clause-read_fault : goal.returns-in-AtEnd-clause-read_fault
returns-in-AtEnd-clause-read_fault g c =
    let i = c.loop-taken.invariant in
    let turn = c.in-AtEnd.ensures.turned i.bytes _ i.stands in
    TellsFault-none _ _ _ (c.in-AtEnd.ensures.read_fault.steady AtEnd-ReadFault ∙ i.reads)
    (Finished-ReadFault c.finish.result _ _ _ (c.finish.ensures.finished i.bytes _ turn.how.2))

pub returns-in-AtEnd-clause-write_fault : goal.returns-in-AtEnd-clause-write_fault
returns-in-AtEnd-clause-write_fault g c =
    TellsFault-since _ _ _ _ (c.in-AtEnd.ensures.write_fault.steady (AtEnd-Stopped _) ∙ c.loop-taken.invariant.writes) c.finish.ensures.write_fault

pub returns-in-ReadFault-clause-ran : goal.returns-in-ReadFault-clause-ran
returns-in-ReadFault-clause-ran g c =
    let i = c.loop-taken.invariant in
    let turn = c.in-ReadFault.ensures.turned i.bytes _ i.stands in (
      record {
        taken = i.bytes;
        took = took_none _ _ _ i.bytes turn.piece i.took turn.took turn.how.0;
        org = _;
        answered = turn.how.1.answered;
      },
      omega (arith, i.count, c.loop-taken-test.true),
    )

pub returns-in-ReadFault-clause-read_fault : goal.returns-in-ReadFault-clause-read_fault
returns-in-ReadFault-clause-read_fault g c =
    TellsFault-told _ _ _ (Rose-since _ _ _ c.loop-taken.invariant.reads (c.in-ReadFault.ensures.read_fault.rose refl)) refl

pub returns-in-ReadFault-clause-write_fault : goal.returns-in-ReadFault-clause-write_fault
returns-in-ReadFault-clause-write_fault g c =
    TellsFault-none _ _ _ (c.in-ReadFault.ensures.write_fault.steady (ReadFault-Stopped _) ∙ c.loop-taken.invariant.writes) fault-of-input

pub returns-in-Stopped-clause-ran : goal.returns-in-Stopped-clause-ran
returns-in-Stopped-clause-ran g c =
    let i = c.loop-taken.invariant in
    let turn = c.in-Stopped.ensures.turned i.bytes _ i.stands in
    let most = turn.within in
    rw c.ending.ensures (Ran-stopped c.in-Stopped.stop _ (i.bytes ++ turn.piece) _ _ _ _ (took_more _ _ _ i.bytes turn.piece i.took turn.took)
    (rw length-append (omega (arith, i.count, c.loop-taken-test.true, simp length-take at most, c.min-room.ensures))) turn.how)

pub returns-in-Stopped-clause-read_fault : goal.returns-in-Stopped-clause-read_fault
returns-in-Stopped-clause-read_fault g c =
    TellsFault-none _ _ _ (c.in-Stopped.ensures.read_fault.steady (Stopped-ReadFault _) ∙ c.loop-taken.invariant.reads)
    (λ is. ending_of-ReadFault c.in-Stopped.stop (sym c.ending.ensures ∙ is))

pub returns-in-Stopped-clause-write_fault : goal.returns-in-Stopped-clause-write_fault
returns-in-Stopped-clause-write_fault g c =
    TellsFault-since _ _ _ _ c.loop-taken.invariant.writes (TellsFault-stopped c.in-Stopped.stop _ _ _ c.ending.ensures c.in-Stopped.ensures.write_fault)

pub returns-clause-ran : goal.returns-clause-ran
returns-clause-ran g c =
    let i = c.loop-taken.invariant in
    (record { taken = i.bytes; took = i.took; org = _; answered = i.stands.answered }, omega (arith, i.count, i.within, c.loop-taken-test.false))

pub returns-clause-read_fault : goal.returns-clause-read_fault
returns-clause-read_fault g c = TellsFault-none _ _ _ c.loop-taken.invariant.reads limit-read

pub returns-clause-write_fault : goal.returns-clause-write_fault
returns-clause-write_fault g c = TellsFault-none _ _ _ c.loop-taken.invariant.writes limit-write
