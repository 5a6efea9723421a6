use Rattle.std.proofs.Common.{drop}
use Rattle.std.specs.Prelude.{Result}
use Rattle.dv_message.specs.declared.stop.Stop.{Stop}
use Rattle.dv_message.specs.Checked.{Walked}
use Rattle.dv_message.specs.Scenes.{targeted_in}
use Rattle.dv_write.specs.Closures.{ReachedSays}
use Rattle.dv_write.proofs.reached.check_each.Given as goal

abbrev pub invariant-loop-key : goal.invariant-loop-key
invariant-loop-key l = (result : Result (Unit {0}) Stop)
    → Walked (ReachedSays (targeted_in l.fn.store.present l.fn.target) l.fn.action) (drop l.key-index l.set) result
    → Walked (ReachedSays (targeted_in l.fn.store.present l.fn.target) l.fn.action) l.set result
