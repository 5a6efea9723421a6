use Rattle.std.proofs.Common.{◌≡◌, ℕ, ◌^◌, ◌≤◌}
use Rattle.dv_value.specs.declared.id.Id.{Id}
use Rattle.dv_roles.specs.Seated.{most_after, steps_left}
use Rattle.dv_roles.specs.Reaches.{has_left}
use Rattle.dv_roles.proofs.reach.Reach.next.Given as goal

abbrev pub invariant-seats : goal.invariant-seats
invariant-seats l = ((depth : ℕ) (seat : Id) → has_left l.self depth seat ≡ has_left l.fn.self depth seat)
    × (steps_left l.self.team l.self.depth ≤ steps_left l.fn.self.team l.fn.self.depth)

abbrev pub decreases-seats : goal.decreases-seats
decreases-seats l = most_after (2 ^ 128) l.self.team
