use Rattle.dv_roles.specs.Held.{holds}
use Rattle.dv_roles.specs.Seated.{steps_left}
use Rattle.dv_access.specs.Reaches.{is_reached}
use Rattle.dv_access.proofs.HeldPairs.{Unseen}
use Rattle.dv_access.proofs.reaching.reaches.Given as goal

abbrev pub invariant-pairs : goal.invariant-pairs
invariant-pairs l = Unseen (holds l.fn.directory l.fn.user l.fn.action l.fn.table) (λ depth seat. is_reached l.fn.directory l.fn.user l.fn.table depth seat l.fn.owner) l.held

abbrev pub decreases-pairs : goal.decreases-pairs
decreases-pairs l = steps_left l.held.team l.held.depth
