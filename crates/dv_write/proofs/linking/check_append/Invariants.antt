use Rattle.std.proofs.Common.{drop}
use Rattle.std.specs.Prelude.{Result}
use Rattle.dv_schema.specs.declared.opening.Action.TheVariants.{Append}
use Rattle.dv_message.specs.declared.stop.Stop.{Stop}
use Rattle.dv_message.specs.Checked.{Answers}
use Rattle.dv_message.specs.Lookups.{AppendSays}
use Rattle.dv_message.specs.Rights.{RightSays}
use Rattle.dv_message.specs.Scenes.{targeted_in}
use Rattle.dv_write.proofs.linking.check_append.Given as goal

abbrev pub invariant-loop-naming : goal.invariant-loop-naming
invariant-loop-naming l = (result : Result (Unit {0}) Stop)
    → Answers (AppendSays (RightSays (targeted_in l.fn.store.present l.fn.target) Append) (targeted_in l.fn.store.present l.fn.target) (drop l.naming-index l.named)) result
    → Answers (AppendSays (RightSays (targeted_in l.fn.store.present l.fn.target) Append) (targeted_in l.fn.store.present l.fn.target) l.named) result
