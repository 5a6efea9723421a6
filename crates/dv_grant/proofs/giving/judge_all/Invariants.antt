use Rattle.std.proofs.Common.{drop}
use Rattle.std.specs.Prelude.{Result}
use Rattle.dv_message.specs.declared.stop.Stop.{Stop}
use Rattle.dv_message.specs.Checked.{Walked}
use Rattle.dv_grant.specs.Granting.{granting_in, GrantSays}
use Rattle.dv_grant.proofs.giving.judge_all.Given as goal

abbrev pub invariant-loop-check : goal.invariant-loop-check
invariant-loop-check l = (result : Result (Unit {0}) Stop)
    → Walked (GrantSays (granting_in l.fn.store.present l.fn.target l.fn.principal l.fn.rights)) (drop l.check-index l.checks) result
    → Walked (GrantSays (granting_in l.fn.store.present l.fn.target l.fn.principal l.fn.rights)) l.checks result
