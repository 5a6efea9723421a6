use Rattle.dv_shares.specs.Handing.{handed_by, AddsShares}
use Rattle.dv_shares.proofs.Principals.{left_after, HasUpTo}
use Rattle.dv_shares.proofs.handing.share_with_granted.Given as goal

abbrev pub invariant-principals : goal.invariant-principals
invariant-principals l = AddsShares (handed_by l.fn.store.present l.fn.row) (HasUpTo l.fn.store.present l.fn.row l.after) l.fn.shares.items l.shares.items

abbrev pub decreases-principals : goal.decreases-principals
decreases-principals l = left_after l.after
