use Rattle.std.proofs.Common.{◌<◌, ◌+◌, arith, length, drop, get_or, subst, sym}
use Rattle.std.specs.Prelude.{Err}
use Rattle.dv_message.specs.Checked.{Walked}
use Rattle.dv_pipeline.specs.Querying.{querying_in, QuerySays}
use Rattle.dv_pipeline.specs.declared.query.QueryCheck.TheVariants as check
use Rattle.dv_message.proofs.Walking.{ended, drop_at}
use Rattle.dv_pipeline.proofs.query.Asked.judge_all.Goals as goal

pub returns-in-Err : goal.returns-in-Err
returns-in-Err c = λ world.
    let checks = c.args.checks.now in
    let i = c.loop-check.check-index in
    let lt : i < length checks = omega (arith, c.loop-check-test.true) in
    let Says = QuerySays (querying_in world c.args.self.now) in
    c.loop-check.invariant world (Err c.in-Err.stop) (subst (λ rest. Walked {T = Unit {0}} Says rest (Err c.in-Err.stop)) (sym (drop_at checks i check.WellFormed lt))
    (ended (Unit {0}) Says (get_or checks i check.WellFormed) (drop (i + 1) checks) c.in-Err.stop (c.in-Err.ensures world)))
