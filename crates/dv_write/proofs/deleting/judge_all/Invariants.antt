use Rattle.std.proofs.Common.{drop}
use Rattle.std.specs.Prelude.{Result}
use Rattle.dv_message.specs.declared.stop.Stop.{Stop}
use Rattle.dv_message.specs.Checked.{Walked}
use Rattle.dv_write.specs.Deleting.{deleting_in, DeleteSays}
use Rattle.dv_write.proofs.deleting.judge_all.Given as goal

abbrev pub invariant-loop-check : goal.invariant-loop-check
invariant-loop-check l = (result : Result (Unit {0}) Stop)
    → Walked (DeleteSays (deleting_in l.fn.store.present l.fn.target l.fn.version)) (drop l.check-index l.checks) result
    → Walked (DeleteSays (deleting_in l.fn.store.present l.fn.target l.fn.version)) l.checks result
