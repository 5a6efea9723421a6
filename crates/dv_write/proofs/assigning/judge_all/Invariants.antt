use Rattle.std.proofs.Common.{drop}
use Rattle.std.specs.Prelude.{Result}
use Rattle.dv_message.specs.declared.stop.Stop.{Stop}
use Rattle.dv_message.specs.Checked.{Walked}
use Rattle.dv_write.specs.Assigning.{assigning_in, AssignSays}
use Rattle.dv_write.proofs.assigning.judge_all.Given as goal

abbrev pub invariant-loop-check : goal.invariant-loop-check
invariant-loop-check l = (result : Result (Unit {0}) Stop)
    → Walked (AssignSays (assigning_in l.fn.store.present l.fn.target l.fn.owner)) (drop l.check-index l.checks) result
    → Walked (AssignSays (assigning_in l.fn.store.present l.fn.target l.fn.owner)) l.checks result
