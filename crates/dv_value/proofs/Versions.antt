use Rattle.std.proofs.Common.{◌≡◌, ℕ, ◌^◌, ◌<◌, ◌+◌, List, [], ◌∷◌, Bool, true, false, not, cond, ◌&&◌, ◌||◌, bytes_eq, length, arith, if◌then◌else◌, Some, None, decimal, refl, sym, ◌∙◌, ap, lt-ltb, ltb-true}
use Rattle.std.specs.List.{list_any, position_or_len}
use Rattle.std.specs.Prelude.{nat_lt}
use Rattle.std.specs.Str.Parse.{AllDigits, IsNumeral, digits_value, without_leading_plus}
use Rattle.std.proofs.lemmas.Fmt.{decimal_is_IsNumeral}
use Rattle.std.proofs.lemmas.Slice.Eq.{bytes_eq-Decides}
use Rattle.std.proofs.lemmas.Str.Parse.{without_leading_plus_none, digit_from_value}
use Rattle.dv_value.specs.Tokens.{printed_version_of}

-- digits have no plus in front
pub no_plus : (text : List ℕ) → AllDigits 10 text → without_leading_plus text ≡ text
no_plus [] d = refl
no_plus (c ∷ cs) d = without_leading_plus_none (c ∷ cs) (λ e. omega (arith, digit_from_value c d.0, e))

chosen : (a b : Bool) (n : ℕ) → a ≡ true → b ≡ true → (if a && b then Some n else None) ≡ Some n
chosen true true n e f = refl
chosen true false n e f = absurd (cc)
chosen false b n e f = absurd (cc)

refused : (a b : Bool) (n : ℕ) → (a ≡ true → b ≡ true → Unit {0} → ⊥) → (if a && b then Some n else None) ≡ None
refused true true n other = absurd (other refl refl tt)
refused true false n other = refl
refused false b n other = refl

-- a printed version is read
pub printed_version_of-decimal : (n : ℕ) (text : List ℕ) → n < 2 ^ 63 → decimal n ≡ text → printed_version_of text ≡ Some n
unfolding printed_version_of
printed_version_of-decimal n text h e =
    let value : digits_value 10 text ≡ n = ap (digits_value 10) (sym e) ∙ (decimal_is_IsNumeral n (omega (arith, h))).1 in
    rw (value) (chosen (nat_lt n (2 ^ 63)) (bytes_eq (decimal n) text) n (lt-ltb n (2 ^ 63) h) ((bytes_eq-Decides (decimal n) text).1 e))

-- any other text is not
pub printed_version_of-other : (text : List ℕ) → ((n : ℕ) → n < 2 ^ 63 → decimal n ≡ text → ⊥) → printed_version_of text ≡ None
unfolding printed_version_of
printed_version_of-other text other =
    refused _ _ (digits_value 10 text) (λ below same _. other (digits_value 10 text) (ltb-true _ _ below) ((bytes_eq-Decides _ text).0 same))

cell : (b : Bool) (n m : ℕ) (r : Bool) → (n ≡ m → r ≡ false) → cond (not b) (1 + n) 0 ≡ m + 1 → (b || r) ≡ false
cell true n m r h e = absurd (omega (arith, e))
cell false n m r h e = h (omega (arith, e))

-- where the place of the first that passes is the end, none passes
pub list_any-end : {X : Type 0} (p : X → Bool) → (xs : List X) → position_or_len p xs ≡ length xs → list_any p xs ≡ false
list_any-end p [] e = refl
list_any-end p (x ∷ xs) e = cell (p x) (position_or_len p xs) (length xs) (list_any p xs) (list_any-end p xs) (e ∙ omega arith)

-- the text of a version is a numeral, without and with a plus taken away
pub numeral : (n : ℕ) (text : List ℕ) → n < 2 ^ 63 → decimal n ≡ text → IsNumeral 10 (without_leading_plus text) × (digits_value 10 (without_leading_plus text) ≡ n)
numeral n text h e = let small : n < 2 ^ 64 = omega (arith, h) in rw (← e, no_plus (decimal n) (decimal_is_IsNumeral n small).0.1) (decimal_is_IsNumeral n small)

pub below : (m n : ℕ) → m ≡ n → n < 2 ^ 63 → m < 2 ^ 64
below m n e h = omega (arith, h)
