use Rattle.std.proofs.Common.{drop}
use Rattle.std.specs.Prelude.{Result}
use Rattle.dv_schema.specs.declared.opening.Action.TheVariants as action
use Rattle.dv_message.specs.declared.stop.Stop.{Stop}
use Rattle.dv_message.specs.Checked.{Answers}
use Rattle.dv_message.specs.Lookups.{AppendSays}
use Rattle.dv_pipeline.specs.Creating.{creating_in, target_of, NewRight}
use Rattle.dv_pipeline.proofs.creation.Creation.check_all_append.Given as goal

abbrev pub invariant-loop-naming : goal.invariant-loop-naming
invariant-loop-naming l =
    let c = creating_in l.fn.store.present l.fn.self in
    (result : Result (Unit {0}) Stop)
    → Answers (AppendSays (NewRight c action.Append) (target_of c) (drop l.naming-index l.named)) result
    → Answers (AppendSays (NewRight c action.Append) (target_of c) l.named) result
