use Rattle.std.proofs.Common.{reverse}
use Rattle.std.specs.BTreeSet.{btree_set_len}
use Rattle.dv_shares.proofs.Climbing.{Climbs}
use Rattle.dv_shares.proofs.heirs.climb.Given as goal

abbrev pub invariant-parents : goal.invariant-parents
invariant-parents l = Climbs l.fn.store.present l.fn.definition l.fn.row l.initial.waiting l.waiting (reverse l.path.items) l.above

abbrev pub decreases-parents : goal.decreases-parents
decreases-parents l = btree_set_len l.waiting
