use Rattle.std.proofs.Common.{◌≡◌, drop}
use Rattle.dv_work.specs.History.{Extends}
use Rattle.dv_shares.specs.Handing.{each_added}
use Rattle.dv_shares.specs.Outcome.{StaysWithin}
use Rattle.dv_shares.proofs.inheriting.add_each.Given as goal

abbrev pub invariant-loop-share : goal.invariant-loop-share
invariant-loop-share l = record {
  rest : each_added l.row (drop l.share-index l.shares) l.store.present ≡ each_added l.row l.shares l.initial.store.present;
  extends : Extends l.initial.store l.store;
  within : StaysWithin l.initial.store.present l.store.present;
}
