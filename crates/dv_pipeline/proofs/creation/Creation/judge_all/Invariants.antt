use Rattle.std.proofs.Common.{drop}
use Rattle.std.specs.Prelude.{Result}
use Rattle.dv_message.specs.declared.stop.Stop.{Stop}
use Rattle.dv_message.specs.Checked.{Walked}
use Rattle.dv_pipeline.specs.Creating.{creating_in, CreationSays}
use Rattle.dv_pipeline.proofs.creation.Creation.judge_all.Given as goal

abbrev pub invariant-loop-check : goal.invariant-loop-check
invariant-loop-check l = (result : Result (Unit {0}) Stop)
    → Walked (CreationSays (creating_in l.fn.store.present l.fn.self)) (drop l.check-index l.checks) result
    → Walked (CreationSays (creating_in l.fn.store.present l.fn.self)) l.checks result
