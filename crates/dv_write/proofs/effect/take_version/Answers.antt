use Rattle.std.proofs.Common.{◌+◌, ◌-◌, ◌^◌}
use Rattle.std.specs.Prelude.{nat_lt}
use Rattle.dv_refusal.specs.declared.what.What.TheVariants as what
use Rattle.dv_write.proofs.Limits.{told_by_test}
use Rattle.dv_write.proofs.effect.take_version.Goals as goal

pub returns-in-Err-clause-limit : goal.returns-in-Err-clause-limit
returns-in-Err-clause-limit c = told_by_test (nat_lt (2 ^ 63 - 1) (c.args.store.now.present.version + 1)) what.Version c.in-Err.fault c.stop_of.result c.in-Err.ensures.err c.stop_of.ensures
