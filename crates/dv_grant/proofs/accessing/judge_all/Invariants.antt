use Rattle.std.proofs.Common.{drop}
use Rattle.std.specs.Prelude.{Result}
use Rattle.dv_message.specs.declared.stop.Stop.{Stop}
use Rattle.dv_message.specs.Checked.{Walked}
use Rattle.dv_grant.specs.Accessing.{accessing_in, AccessSays}
use Rattle.dv_grant.proofs.accessing.judge_all.Given as goal

abbrev pub invariant-loop-check : goal.invariant-loop-check
invariant-loop-check l = (result : Result (Unit {0}) Stop)
    → Walked (AccessSays (accessing_in l.fn.store.present l.fn.target l.fn.user)) (drop l.check-index l.checks) result
    → Walked (AccessSays (accessing_in l.fn.store.present l.fn.target l.fn.user)) l.checks result
