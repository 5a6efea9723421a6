use Rattle.std.proofs.Common.{drop}
use Rattle.std.specs.Prelude.{Result}
use Rattle.dv_message.specs.declared.stop.Stop.{Stop}
use Rattle.dv_message.specs.Checked.{Walked}
use Rattle.dv_grant.specs.Revoking.{revoking_in, RevokeSays}
use Rattle.dv_grant.proofs.revoking.judge_all.Given as goal

abbrev pub invariant-loop-check : goal.invariant-loop-check
invariant-loop-check l = (result : Result (Unit {0}) Stop)
    → Walked (RevokeSays (revoking_in l.fn.store.present l.fn.target l.fn.principal)) (drop l.check-index l.checks) result
    → Walked (RevokeSays (revoking_in l.fn.store.present l.fn.target l.fn.principal)) l.checks result
