use Rattle.std.proofs.Common.{◌≡◌, ℕ, ◌≤◌, ◌<◌, false}
use Rattle.dv_roles.specs.Reaches.{query_of}
use Rattle.dv_roles.specs.Walk.{is_held}
use Rattle.dv_roles.proofs.reach.Reach.next_depth.Given as goal

abbrev pub invariant-loop-depth : goal.invariant-loop-depth
invariant-loop-depth l = (depth : ℕ) → l.self.depth ≤ depth → depth < l.depth → is_held (query_of l.self) l.self.team depth ≡ false
