use Rattle.std.proofs.Common.{inl}
use Rattle.dv_service.proofs.Runs.{Answered-unopened}
use Rattle.dv_service.proofs.Telling.{TellsFault-ending}
use Rattle.dv_service.proofs.Turning.{Finished-some, Finished-stopped}
use Rattle.dv_service.proofs.run.finish.Goals as goal

pub returns-in-Some-clause-finished : goal.returns-in-Some-clause-finished
returns-in-Some-clause-finished g c = λ taken before stands.
    Finished-some _ _ _ _ _ c.in-Some.is (c.in-Ok.ensures.ends taken before stands).1

pub returns-in-None-clause-finished : goal.returns-in-None-clause-finished
returns-in-None-clause-finished g c = λ taken before stands.
    inl (Answered-unopened _ _ _ _ (c.in-Ok.ensures.ends taken before stands).1 c.in-None.is)

pub returns-in-Err-clause-finished : goal.returns-in-Err-clause-finished
returns-in-Err-clause-finished g c = λ taken before stands.
    rw c.ending.ensures (Finished-stopped c.in-Err.stop _ _ _ _ (c.in-Err.ensures.ends taken before stands))

pub returns-in-Err-clause-write_fault : goal.returns-in-Err-clause-write_fault
returns-in-Err-clause-write_fault g c = TellsFault-ending c.in-Err.stop _ _ _ c.ending.ensures c.in-Err.ensures.fault
