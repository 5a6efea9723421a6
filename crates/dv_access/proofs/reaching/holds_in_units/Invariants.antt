use Rattle.std.specs.Prelude.{◌==◌, ◌||◌}
use Rattle.dv_roles.specs.Held.{holds}
use Rattle.dv_roles.specs.Seated.{steps_left}
use Rattle.dv_access.specs.Reaches.{deep, local}
use Rattle.dv_access.proofs.HeldPairs.{Unseen}
use Rattle.dv_access.proofs.reaching.holds_in_units.Given as goal

abbrev pub invariant-pairs : goal.invariant-pairs
invariant-pairs l = Unseen (holds l.fn.directory l.fn.user l.fn.action l.fn.table) (λ depth _. (depth == deep) || (depth == local)) l.held

abbrev pub decreases-pairs : goal.decreases-pairs
decreases-pairs l = steps_left l.held.team l.held.depth
