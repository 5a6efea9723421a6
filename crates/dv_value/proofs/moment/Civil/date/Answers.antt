use Rattle.std.proofs.Common.{refl, sym, ◌∙◌, arith, w8, w16, true≢false}
use Rattle.std.proofs.lemmas.Int.{to_z_pos}
use Rattle.dv_value.specs.Moment.{IsNear}
use Rattle.dv_value.proofs.Moments.{far_date, has_date, no_date, day_is}
use Rattle.dv_value.proofs.moment.Civil.date.Goals as goal

pub returns-then-not-is_near : goal.returns-then-not-is_near
returns-then-not-is_near c = far_date c.args.self.now (λ h. true≢false (sym (c.is_near.ensures.1 h) ∙ c.if-not-is_near.true))

pub returns-in-Ok : goal.returns-in-Ok
returns-in-Ok c =
    let around : IsNear c.args.self.now = c.is_near.ensures.0 c.if-not-is_near.false in
    let year = to_z_pos w16 c.args.self.now.year (omega (arith, around.1)) in
    let month = to_z_pos w8 c.args.self.now.month (omega (arith, around.2)) in
    let day = to_z_pos w8 c.args.self.now.day (omega (arith, around.3)) in
    (has_date c.args.self.now _ _ _ year month day around (c.in-Ok.ensures.succeeds.0 refl), day_is c.args.self.now c.in-Ok.date _ _ _ year month day c.in-Ok.ensures.value)

pub returns-in-Err : goal.returns-in-Err
returns-in-Err c =
    let around : IsNear c.args.self.now = c.is_near.ensures.0 c.if-not-is_near.false in
    let year = to_z_pos w16 c.args.self.now.year (omega (arith, around.1)) in
    let month = to_z_pos w8 c.args.self.now.month (omega (arith, around.2)) in
    let day = to_z_pos w8 c.args.self.now.day (omega (arith, around.3)) in
    no_date c.args.self.now _ _ _ year month day (λ date. true≢false (sym (c.in-Err.ensures.succeeds.1 date)))
