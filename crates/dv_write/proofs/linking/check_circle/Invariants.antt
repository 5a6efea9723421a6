use Rattle.std.proofs.Common.{drop}
use Rattle.std.specs.Prelude.{Result}
use Rattle.dv_message.specs.declared.stop.Stop.{Stop}
use Rattle.dv_message.specs.Checked.{Answers}
use Rattle.dv_write.specs.Updating.{CircleSays}
use Rattle.dv_write.proofs.linking.check_circle.Given as goal

abbrev pub invariant-loop-naming : goal.invariant-loop-naming
invariant-loop-naming l = (result : Result (Unit {0}) Stop)
    → Answers (CircleSays l.fn.store.present l.fn.definition l.fn.key (drop l.naming-index l.named)) result
    → Answers (CircleSays l.fn.store.present l.fn.definition l.fn.key l.named) result
