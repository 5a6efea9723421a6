use Rattle.std.proofs.Common.{take}
use Rattle.dv_work.specs.History.{Extends}
use Rattle.dv_cascade.specs.Chains.{is_among}
use Rattle.dv_shares.specs.Grants.{Regrants}
use Rattle.dv_shares.specs.Handing.{cleared_on}
use Rattle.dv_shares.specs.Outcome.{StaysWithin}
use Rattle.dv_shares.proofs.inheriting.disinherit_all.Given as goal

abbrev pub invariant-loop-row : goal.invariant-loop-row
invariant-loop-row l = record {
  cleared : Regrants (cleared_on l.initial.store.present (is_among (take l.row-index l.set))) l.initial.store.present l.store.present;
  extends : Extends l.initial.store l.store;
  within : StaysWithin l.initial.store.present l.store.present;
}
