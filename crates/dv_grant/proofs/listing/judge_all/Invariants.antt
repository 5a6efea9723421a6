use Rattle.std.proofs.Common.{drop}
use Rattle.std.specs.Prelude.{Result}
use Rattle.dv_message.specs.declared.stop.Stop.{Stop}
use Rattle.dv_message.specs.Checked.{Walked}
use Rattle.dv_message.specs.Scenes.{targeted_in}
use Rattle.dv_grant.specs.Listing.{SharesSays}
use Rattle.dv_grant.proofs.listing.judge_all.Given as goal

abbrev pub invariant-loop-check : goal.invariant-loop-check
invariant-loop-check l = (result : Result (Unit {0}) Stop)
    → Walked (SharesSays (targeted_in l.fn.store.present l.fn.target)) (drop l.check-index l.checks) result
    → Walked (SharesSays (targeted_in l.fn.store.present l.fn.target)) l.checks result
