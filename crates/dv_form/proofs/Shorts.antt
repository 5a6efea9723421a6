-- An integer has 32 bits where the width of 32 bits takes it.
use Rattle.std.proofs.Common.{◌≡◌, ◌∙◌, sym, refl, ap, ℤ, pos, negsuc, ℕ, ◌<◌, ◌≤◌, ltb, subst, arith, Bool, true, false, cond, Result, Ok, Err, w32, SFits}
use Rattle.std.specs.Result.{OkIff, is_ok, result_unwrap_or}
use Rattle.std.proofs.lemmas.Bool.{lt-ltb, le-ltb, ltb-true}
use Rattle.dv_form.specs.Members.{is_short}

short_fits : (z : ℤ) → SFits w32 z → is_short z ≡ true
unfolding is_short
short_fits (pos n) f = lt-ltb _ _ f.sfits
short_fits (negsuc n) f = lt-ltb _ _ f.sfits

fits_short : (z : ℤ) → is_short z ≡ true → SFits w32 z
unfolding is_short
fits_short (pos n) e = record { sfits = ltb-true _ _ e }
fits_short (negsuc n) e = record { sfits = ltb-true _ _ e }

short_not : (z : ℤ) (b : Bool) → is_short z ≡ b → (SFits w32 z → ⊥) → false ≡ b
short_not z true e h = absurd (h (fits_short z e))
short_not z false e h = refl

pub ok_short : {E : Type 0} (z : ℤ) (r : Result ℤ E) → OkIff r (SFits w32 z) z → is_ok r ≡ is_short z
ok_short z (Ok x) h = sym (short_fits z h.0)
ok_short z (Err e) h = short_not z _ refl h

pub narrowed : {E : Type 0} (z : ℤ) (r : Result ℤ E) → OkIff r (SFits w32 z) z → result_unwrap_or r (pos 0) ≡ cond (is_short z) z (pos 0)
narrowed z (Ok x) h = h.1 ∙ sym (ap (λ b. cond b z (pos 0)) (short_fits z h.0))
narrowed z (Err e) h = ap (λ b. cond b z (pos 0)) (short_not z _ refl h)

not_lt : (m limit : ℕ) → (m < limit → ⊥) → limit ≤ m
not_lt m limit h = omega (arith, h)

-- a natural number that a narrower width may take
pub natural_narrowed : {E : Type 0} (limit n m : ℕ) (r : Result ℕ E) → OkIff r (n < limit) n → n ≡ m → result_unwrap_or r 0 ≡ cond (ltb m limit) m 0
natural_narrowed limit n m (Ok x) h e = h.1 ∙ e ∙ sym (ap (λ b. cond b m 0) (lt-ltb m limit (subst (λ k. k < limit) e h.0)))
natural_narrowed limit n m (Err x) h e = sym (ap (λ b. cond b m 0) (le-ltb m limit (not_lt m limit (λ k. h (subst (λ j. j < limit) (sym e) k)))))
