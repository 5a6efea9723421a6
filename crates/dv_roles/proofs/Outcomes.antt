-- What follows where an outcome is a success.
use Rattle.std.proofs.Common.{◌≡◌, refl, sym, ap, subst, List, [], ◌∷◌, Bool, true, false, cond}
use Rattle.std.proofs.lemmas.Bool.{true≢false}
use Rattle.std.specs.Prelude.{Result, Ok, Err}
use Rattle.dv_refusal.specs.declared.refusal.Refusal.{Refusal}
use Rattle.dv_units.specs.Chart.{Chart}
use Rattle.dv_roles.specs.State.{State, with_chart}
use Rattle.dv_roles.specs.Beginning.{and_then, each, on_chart}

-- a success, or a refusal
abbrev pub made : {A : Type 0} → A → Result A Refusal
made x = Ok x

abbrev pub refused : {A : Type 0} → Refusal → Result A Refusal
refused refusal = Err refusal

abbrev succeeds : {A : Type 0} → Result A Refusal → Bool
succeeds (Ok x) = true
succeeds (Err refusal) = false

abbrev value_or : {A : Type 0} → Result A Refusal → A → A
value_or (Ok x) y = x
value_or (Err refusal) y = y

pub ok-is : {A : Type 0} (x y : A) → made x ≡ made y → x ≡ y
ok-is {A} x y h = ap (λ (r : Result A Refusal). value_or r x) h

pub err-not : {A : Type 0} (refusal : Refusal) (y : A) → refused refusal ≡ made y → ⊥
err-not {A} refusal y h = true≢false (sym (ap (λ (r : Result A Refusal). succeeds r) h))

-- a test that refuses
pub test-ok : {A : Type 0} (b : Bool) (refusal : Refusal) (rest : Result A Refusal) (e : A) → cond b (Err refusal) rest ≡ Ok e → (b ≡ false) × (rest ≡ Ok e)
test-ok true refusal rest e h = absurd (err-not refusal e h)
test-ok false refusal rest e h = (refl, h)

pub on_chart-ok : (d e : State) (r : Result Chart Refusal) → on_chart d r ≡ Ok e → (chart : Chart) × ((r ≡ Ok chart) × (with_chart d chart ≡ e))
on_chart-ok d e (Ok chart) h = (chart, (refl, ok-is (with_chart d chart) e h))
on_chart-ok d e (Err refusal) h = absurd (err-not refusal e h)

pub and_then-ok : (r : Result State Refusal) (next : State → Result State Refusal) (e : State) → and_then r next ≡ Ok e → (d : State) × ((r ≡ Ok d) × (next d ≡ Ok e))
and_then-ok (Ok d) next e h = (d, (refl, h))
and_then-ok (Err refusal) next e h = absurd (err-not refusal e h)

-- what each step keeps, all keep
pub each-keeps : {A : Type 0} (R : State → State → Type 0) → ((d : State) → R d d) → ((d e f : State) → R d e → R e f → R d f) → (step : State → A → Result State Refusal)
    → ((d e : State) (x : A) → step d x ≡ Ok e → R d e) → (xs : List A) (d e : State) → each step d xs ≡ Ok e → R d e
unfolding each
each-keeps R own over step keeps [] d e h = subst (λ f. R d f) (ok-is d e h) (own d)
each-keeps R own over step keeps (x ∷ xs) d e h =
    let first = and_then-ok (step d x) (λ f. each step f xs) e h in
    over d first.0 e (keeps d first.0 x first.1.0) (each-keeps R own over step keeps xs first.0 e first.1.1)
