use Rattle.std.proofs.Common.{◌≡◌, drop}
use Rattle.dv_work.specs.History.{Extends}
use Rattle.dv_shares.specs.Outcome.{StaysWithin}
use Rattle.dv_shares.specs.Steps.{others_changed}
use Rattle.dv_shares.proofs.changing.change_others.Given as goal

abbrev pub invariant-loop-row : goal.invariant-loop-row
invariant-loop-row l = record {
  rest : others_changed l.target l.principal l.change (drop l.row-index l.set) l.store.present ≡ others_changed l.target l.principal l.change l.set l.initial.store.present;
  extends : Extends l.initial.store l.store;
  within : StaysWithin l.initial.store.present l.store.present;
}
