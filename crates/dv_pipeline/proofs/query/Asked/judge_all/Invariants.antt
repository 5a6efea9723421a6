use Rattle.std.proofs.Common.{drop}
use Rattle.std.specs.Prelude.{Result}
use Rattle.dv_store.specs.World.{World}
use Rattle.dv_message.specs.declared.stop.Stop.{Stop}
use Rattle.dv_message.specs.Checked.{Walked}
use Rattle.dv_pipeline.specs.Querying.{querying_in, QuerySays}
use Rattle.dv_pipeline.proofs.query.Asked.judge_all.Given as goal

abbrev pub invariant-loop-check : goal.invariant-loop-check
invariant-loop-check l = (world : World) (result : Result (Unit {0}) Stop)
    → Walked (QuerySays (querying_in world l.fn.self)) (drop l.check-index l.checks) result
    → Walked (QuerySays (querying_in world l.fn.self)) l.checks result
