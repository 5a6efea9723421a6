use Rattle.std.proofs.Common.{◌≡◌, ◌++◌, flat_map}
use Rattle.dv_roles.specs.Entries.{kept_at, below}
use Rattle.dv_roles.proofs.spreading.add_for.Given as goal

abbrev pub invariant-loop-number : goal.invariant-loop-number
invariant-loop-number l = l.kept ≡ l.initial.kept ++ flat_map (kept_at l.tables l.entries l.action) (below l.number)
