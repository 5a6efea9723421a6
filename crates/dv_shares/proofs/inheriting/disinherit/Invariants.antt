use Rattle.dv_work.specs.History.{Extends}
use Rattle.dv_shares.specs.Outcome.{StaysWithin}
use Rattle.dv_shares.proofs.Clearing.{IsCleared}
use Rattle.dv_shares.proofs.Principals.{left_after}
use Rattle.dv_shares.proofs.inheriting.disinherit.Given as goal

abbrev pub invariant-principals : goal.invariant-principals
invariant-principals l = record {
  cleared : IsCleared l.initial.store.present l.row l.after l.store.present;
  extends : Extends l.initial.store l.store;
  within : StaysWithin l.initial.store.present l.store.present;
}

abbrev pub decreases-principals : goal.decreases-principals
decreases-principals l = left_after l.after
