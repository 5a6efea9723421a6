use Rattle.std.proofs.Common.{◌≡◌, ◌∙◌, sym, true, arith, ap, Some}
use Rattle.dv_value.specs.Moment.{is_civil_time, seconds_of}
use Rattle.dv_value.proofs.Moments.{time_bounds, seconds_are}
use Rattle.dv_value.proofs.moment.Civil.seconds.Goals as goal

pub overflow_mul-time : goal.overflow_mul-time
overflow_mul-time c = let t = time_bounds c.args.self.now (sym c.is_time.ensures ∙ c.if-not-is_time.false) in omega (arith, t.0)

pub overflow_mul-time-2 : goal.overflow_mul-time-2
overflow_mul-time-2 c = let t = time_bounds c.args.self.now (sym c.is_time.ensures ∙ c.if-not-is_time.false) in omega (arith, t.1)

pub overflow_add-time : goal.overflow_add-time
overflow_add-time c = let t = time_bounds c.args.self.now (sym c.is_time.ensures ∙ c.if-not-is_time.false) in omega (arith, t.0, t.1)

pub overflow_add-time-2 : goal.overflow_add-time-2
overflow_add-time-2 c = let t = time_bounds c.args.self.now (sym c.is_time.ensures ∙ c.if-not-is_time.false) in omega (arith, t.0, t.1, t.2)

pub returns : goal.returns
unfolding seconds_of
returns c =
    let t = time_bounds c.args.self.now (sym c.is_time.ensures ∙ c.if-not-is_time.false) in
    let is_time : is_civil_time c.args.self.now ≡ true = sym c.is_time.ensures ∙ c.if-not-is_time.false in
    rw (c.in-Some.ensures.0, is_time) (ap Some (seconds_are c.from.result c.to_unix_epoch_day.result _ c.from-2.result _ c.from.ensures c.to_unix_epoch_day.ensures.bound (c.to_unix_epoch_day.ensures.value ∙ c.in-Some.ensures.1) c.from-2.ensures (omega (arith, t.0, t.1, t.2))))
