use Rattle.std.proofs.Common.{◌≡◌, drop}
use Rattle.dv_work.specs.History.{Extends}
use Rattle.dv_shares.specs.Handing.{all_inherit}
use Rattle.dv_shares.specs.Outcome.{StaysWithin}
use Rattle.dv_shares.proofs.inheriting.inherit_all.Given as goal

abbrev pub invariant-loop-heir : goal.invariant-loop-heir
invariant-loop-heir l = record {
  rest : all_inherit (drop l.heir-index l.heirs) l.store.present ≡ all_inherit l.heirs l.initial.store.present;
  extends : Extends l.initial.store l.store;
  within : StaysWithin l.initial.store.present l.store.present;
}
