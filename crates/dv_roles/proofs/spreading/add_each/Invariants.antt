use Rattle.std.proofs.Common.{◌≡◌, ◌++◌, flat_map, take}
use Rattle.dv_roles.specs.Entries.{kept_for}
use Rattle.dv_roles.proofs.spreading.add_each.Given as goal

abbrev pub invariant-loop-action : goal.invariant-loop-action
invariant-loop-action l = l.kept ≡ l.initial.kept ++ flat_map (kept_for l.tables l.entries) (take l.action-index l.actions)
