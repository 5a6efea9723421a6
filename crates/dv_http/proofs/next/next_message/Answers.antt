use Rattle.std.proofs.Common.{◌≡◌, ℕ, ◌-◌, List, length, take, drop, arith, subst, length-drop}
use Rattle.std.proofs.lemmas.List.{take_all}
use Rattle.dv_http.specs.Reading.{IsHeard, IsHeardAfter}
use Rattle.dv_http.proofs.Hearing.{heard_whole, heard_bad, heard_not_yet, heard_without, heard_with}
use Rattle.dv_http.proofs.next.next_message.Goals as goal

-- what is heard where the first bytes begin with no head
without : (c : goal.After-without_head) → IsHeard c.args.bytes.now c.without_head.result
without c =
    heard_without c.args.bytes.now c.without_head.result (rw c.min.ensures at c.in_default.ensures.none)
    (rw c.min.ensures at c.without_head.ensures)

pub returns-in_default-clause-whole : goal.returns-in_default-clause-whole
returns-in_default-clause-whole c = heard_whole _ _ (without c)

pub returns-in_default-clause-bad : goal.returns-in_default-clause-bad
returns-in_default-clause-bad c = heard_bad _ _ (without c)

pub returns-in_default-clause-not_yet : goal.returns-in_default-clause-not_yet
returns-in_default-clause-not_yet c = heard_not_yet _ _ (without c)

-- what is heard where they begin with one
after_head : (c : goal.In_ok-with_body) → IsHeard c.args.bytes.now c.in_ok-with_body.field-0
after_head c =
    heard_with c.args.bytes.now _ c.in-Some.head c.in_ok-with_body.field-0
    (rw c.min.ensures at c.in-Some.ensures.covers)
    (λ head covers.
    let bytes = c.args.bytes.now in
    let len : ℕ = c.in-Some.head.len in
    let all : take (length bytes - len) (drop len bytes) ≡ drop len bytes =
    take_all (length bytes - len) (drop len bytes) (omega (arith, length-drop len bytes)) in
    subst (λ (t : List ℕ). IsHeardAfter head t c.in_ok-with_body.field-0) all
    (c.in_ok-with_body.ensures head (rw c.min.ensures covers)))

pub returns-clause-whole : goal.returns-clause-whole
returns-clause-whole c = heard_whole _ _ (after_head c)

pub returns-clause-bad : goal.returns-clause-bad
returns-clause-bad c = heard_bad _ _ (after_head c)

pub returns-clause-not_yet : goal.returns-clause-not_yet
returns-clause-not_yet c = heard_not_yet _ _ (after_head c)
