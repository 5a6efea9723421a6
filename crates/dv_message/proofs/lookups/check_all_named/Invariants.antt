use Rattle.std.proofs.Common.{drop}
use Rattle.std.specs.Prelude.{Result}
use Rattle.dv_message.specs.declared.stop.Stop.{Stop}
use Rattle.dv_message.specs.Checked.{Answers}
use Rattle.dv_message.specs.Lookups.{NamedSays}
use Rattle.dv_message.specs.Scenes.{targeted_in}
use Rattle.dv_message.proofs.lookups.check_all_named.Given as goal

abbrev pub invariant-loop-naming : goal.invariant-loop-naming
invariant-loop-naming l = (result : Result (Unit {0}) Stop)
    → Answers (NamedSays (targeted_in l.fn.store.present l.fn.target) (drop l.naming-index l.named)) result
    → Answers (NamedSays (targeted_in l.fn.store.present l.fn.target) l.named) result
