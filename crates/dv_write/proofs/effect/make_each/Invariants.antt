use Rattle.std.proofs.Common.{◌≡◌, drop}
use Rattle.dv_work.specs.History.{Extends}
use Rattle.dv_write.specs.Effects.{applied, first_limit}
use Rattle.dv_write.proofs.effect.make_each.Given as goal

abbrev pub invariant-loop-change : goal.invariant-loop-change
invariant-loop-change l = record {
  world : applied (drop l.change-index l.changes) l.store.present ≡ applied l.changes l.fn.store.present;
  limit : first_limit (drop l.change-index l.changes) l.store.present ≡ first_limit l.changes l.fn.store.present;
  extends : Extends l.fn.store l.store;
}
