-- A token has one spelling, and a text is read as the token whose spelling it is.
use Rattle.std.proofs.Common.{◌≡◌, ◌↔◌, inl, inr, ℕ, ◌+◌, ◌^◌, ◌<◌, suc, List, [], ◌∷◌, ◌++◌, length, take, drop, refl, sym, ◌∙◌, ap, subst, arith, Bool, true, false, eqb, ltb, eqb-true, ltb-true, lt-ltb, le-ltb, ne_eqb, if◌then◌else◌, Option, Some, None, decimal}
use Rattle.std.specs.Prelude.{nat_lt}
use Rattle.std.specs.Char.{is_ascii_digit}
use Rattle.std.specs.List.{list_all, list_any, position_or_len, before_first, after_first}
use Rattle.std.specs.Option.{option_map, option_and_then}
use Rattle.std.specs.Str.Parse.{digits_value}
use Rattle.std.proofs.lemmas.Bool.{cases_lt}
use Rattle.std.proofs.Math.Seq.{take-append_seam}
use Rattle.std.proofs.lemmas.Fmt.{digits_decimal}
use Rattle.std.proofs.lemmas.Slice.Eq.{bytes_eq-Decides}
use Rattle.dv_value.proofs.Amounts.{own, both, no_digit, drop_past}
use Rattle.dv_value.proofs.Versions.{printed_version_of-decimal}
use Rattle.dv_value.specs.Tokens.{printed_version_of, is_plus, part_way, token_of, token_text, IsSpelled}
use Rattle.dv_value.specs.declared.token.Token.{Token}

chosen : {A : Type 0} (test : Bool) (m n : A) → (if test then Some m else None) ≡ Some n → (test ≡ true) × (m ≡ n)
chosen true m n e = (refl, cc e)
chosen false m n e = absurd (cc e)

-- what is read as a version is its printed text
version_says : (text : List ℕ) (n : ℕ) → printed_version_of text ≡ Some n → (n < 2 ^ 63) × (text ≡ decimal n)
unfolding printed_version_of
version_says text n e =
    let (test, is) = chosen _ _ _ e in
    let (below, same) = both _ _ test in
    (subst (λ m. m < 2 ^ 63) is (ltb-true (digits_value 10 text) (2 ^ 63) below), sym ((bytes_eq-Decides _ text).0 same) ∙ ap decimal is)

-- a text with a plus is what stands before it, the plus and what stands after it
seam_at : (c : ℕ) (cs : List ℕ) (b : Bool) → eqb c 43 ≡ b → list_any is_plus (c ∷ cs) ≡ true → (list_any is_plus cs ≡ true → cs ≡ before_first is_plus cs ++ 43 ∷ after_first is_plus cs)
    → c ∷ cs ≡ before_first is_plus (c ∷ cs) ++ 43 ∷ after_first is_plus (c ∷ cs)
seam_at c cs true h e rest = rw h (ap (λ d. d ∷ cs) (eqb-true c 43 h))
seam_at c cs false h e rest =
    let some = rw h at e in
    let n : ℕ = position_or_len is_plus cs in
    let more : suc (n + 1) ≡ suc n + 1 = omega arith in
    let one : suc n ≡ 1 + n = omega arith in
    rw h (ap (λ ds. c ∷ ds) (rest some) ∙ ap (λ k. (c ∷ take n cs) ++ 43 ∷ drop k (c ∷ cs)) more
    ∙ ap (λ k. take k (c ∷ cs) ++ 43 ∷ drop (k + 1) (c ∷ cs)) one)

seam : (text : List ℕ) → list_any is_plus text ≡ true → text ≡ before_first is_plus text ++ 43 ∷ after_first is_plus text
seam [] e = absurd (cc e)
seam (c ∷ cs) e = seam_at c cs (eqb c 43) refl e (seam cs)

pair_says : (start place : Option ℕ) (token : Token) → option_and_then (λ s. option_and_then (λ p. part_way s p) place) start ≡ Some token
    → (start ≡ Some token.start) × (place ≡ Some token.place) × (token.place < token.start)
unfolding part_way
pair_says None place token e = absurd (cc e)
pair_says (Some s) None token e = absurd (cc e)
pair_says (Some s) (Some p) token e =
    let test : nat_lt p s ≡ true = (chosen _ _ _ e).0 in
    let is : record { start = s; place = p } ≡ token = (chosen _ _ _ e).1 in
    let starts : s ≡ token.start = ap (λ t. t.start) is in
    let places : p ≡ token.place = ap (λ t. t.place) is in
    (ap Some starts, ap Some places, omega (arith, ltb-true p s test, starts, places))

whole_says : (version : Option ℕ) (token : Token) → option_map (λ n. record { start = n; place = n }) version ≡ Some token → (version ≡ Some token.start) × (token.place ≡ token.start)
whole_says None token e = absurd (cc e)
whole_says (Some n) token e =
    let is : record { start = n; place = n } ≡ token = cc e in
    (ap Some (ap (λ t. t.start) is), sym (ap (λ t. t.place) is) ∙ ap (λ t. t.start) is)

says_in : (plus : Bool) (text : List ℕ) (token : Token) → list_any is_plus text ≡ plus → token_of text ≡ Some token → IsSpelled token text
unfolding token_of token_text
says_in true text token h e =
    let (start, place, below) = pair_says _ _ token (rw h at e) in
    let (fits, front) = version_says _ _ start in
    let (_, back) = version_says _ _ place in
    (omega (arith, below), fits, rw (lt-ltb token.place token.start below) (seam text h ∙ ap (λ f. f ++ 43 ∷ after_first is_plus text) front ∙ ap (λ b. decimal token.start ++ 43 ∷ b) back))
says_in false text token h e =
    let (version, same) = whole_says _ token (rw h at e) in
    let (fits, is) = version_says _ _ version in
    (omega (arith, same), fits, rw (le-ltb token.place token.start (omega (arith, same))) (is ∙ ap decimal (sym same)))

no_plus_in : (ds : List ℕ) → list_all is_ascii_digit ds ≡ true → list_any is_plus ds ≡ false
no_plus_in [] digits = refl
no_plus_in (d ∷ ds) digits =
    let (first, others) = both _ _ digits in
    let other : eqb d 43 ≡ false = ne_eqb d 43 (λ e. no_digit d first (omega (arith, e))) in
    rw other (no_plus_in ds others)

plus_at : (ds rest : List ℕ) → list_all is_ascii_digit ds ≡ true → (list_any is_plus (ds ++ 43 ∷ rest) ≡ true) × (position_or_len is_plus (ds ++ 43 ∷ rest) ≡ length ds)
plus_at [] rest digits = (refl, refl)
plus_at (d ∷ ds) rest digits =
    let (first, others) = both _ _ digits in
    let other : eqb d 43 ≡ false = ne_eqb d 43 (λ e. no_digit d first (omega (arith, e))) in
    let k = plus_at ds rest others in
    (rw other k.0, rw other (omega (arith, k.1)))

said_part_way : (s p : ℕ) → p < s → s < 2 ^ 63 → token_of (decimal s ++ 43 ∷ decimal p) ≡ Some (record { start = s; place = p })
unfolding token_of part_way
said_part_way s p below fits =
    let text : List ℕ = decimal s ++ 43 ∷ decimal p in
    let k = plus_at (decimal s) (decimal p) (digits_decimal own s (omega (arith, fits))) in
    let front : before_first is_plus text ≡ decimal s = ap (λ n. take n text) k.1 ∙ take-append_seam (decimal s) (43 ∷ decimal p) in
    let back : after_first is_plus text ≡ decimal p = ap (λ n. drop (n + 1) text) k.1 ∙ drop_past (decimal s) (decimal p) 43 in
    rw (k.0, front, back, printed_version_of-decimal s (decimal s) fits refl, printed_version_of-decimal p (decimal p) (omega (arith, below, fits)) refl, lt-ltb p s below) refl

said_whole : (n : ℕ) → n < 2 ^ 63 → token_of (decimal n) ≡ Some (record { start = n; place = n })
unfolding token_of
said_whole n fits = rw (no_plus_in (decimal n) (digits_decimal own n (omega (arith, fits))), printed_version_of-decimal n (decimal n) fits refl) refl

said : (text : List ℕ) (token : Token) → IsSpelled token text → token_of text ≡ Some token
unfolding token_text
said text token (most, fits, is) =
    elim (cases_lt token.place token.start) [
      | inl below ↦ ap token_of (is ∙ rw (lt-ltb token.place token.start below) refl) ∙ said_part_way token.start token.place below fits
      | inr past ↦
          let same : token.place ≡ token.start = omega (arith, past, most) in
          ap token_of (is ∙ rw (le-ltb token.place token.start past) (ap decimal same)) ∙ said_whole token.start fits ∙ ap (λ p. Some (record { start = token.start; place = p })) (sym same)
    ]

-- a text is read as a token exactly where it is the token's
pub reads : (text : List ℕ) (token : Token) → (token_of text ≡ Some token) ↔ IsSpelled token text
reads text token = (says_in _ text token refl, said text token)
