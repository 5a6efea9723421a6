use Rattle.std.proofs.Common.{arith, sym, ◌∙◌, ap, ◌≡◌, ◌+◌, ◌-◌, ◌≤◌, length, take, drop}
use Rattle.dv_value.proofs.Spellings.{too_short, no_text, is_text}
use Rattle.dv_value.proofs.spelling.take_text.Goals as goal

pub returns-in-None-clause-refused : goal.returns-in-None-clause-refused
returns-in-None-clause-refused c = λ _. too_short 6 c.args.body.now c.in-None.ensures

pub returns-then-body-len-clause-refused : goal.returns-then-body-len-clause-refused
returns-then-body-len-clause-refused c = λ _. no_text c.args.body.now _ c.in-Some.ensures (λ text _ _ within. omega (arith, within, c.if-body-len.true))

pub returns-in_ok-from_str-in-Ok-clause-taken : goal.returns-in_ok-from_str-in-Ok-clause-taken
returns-in_ok-from_str-in-Ok-clause-taken c =
    let enough : 4 + c.in-Some.len ≤ length c.args.body.now = omega (arith, c.in-Some.ensures.number_within) in
    rw c.in_ok-from_str-in-Ok.ensures (is_text c.args.body.now c.in-Ok.text.now _ (4 + c.in-Some.len - 4) c.in-Some.ensures enough (omega arith) c.in-Ok.ensures.cases.0 c.in-Ok.ensures.cases.1)

pub returns-in-Err-clause-refused : goal.returns-in-Err-clause-refused
returns-in-Err-clause-refused c = λ _. no_text c.args.body.now _ c.in-Some.ensures (λ text scalars is _.
    let slice : 4 + c.in-Some.len - 4 ≡ c.in-Some.len = omega arith in
    c.in-Err.ensures.cases.0 (text, (scalars, sym is ∙ ap (λ k. take k (drop 4 c.args.body.now)) (sym slice))))
