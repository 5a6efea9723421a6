-- What the parts of an amount's text say, and that a printed amount is read again.
use Rattle.std.proofs.Common.{◌≡◌, ◌≢◌, ℕ, zero, suc, ◌+◌, ◌-◌, ◌*◌, ◌/◌, ◌%◌, ◌^◌, ◌<◌, ◌≤◌, List, [], ◌∷◌, ◌++◌, length, take, drop, get_or, refl, subst, sym, ◌∙◌, ap, arith, rules, Bool, true, false, ◌&&◌, ◌||◌, not, eqb, ltb, leb, ltb-true, leb-true, lt-ltb, le-ltb, le-leb, ne_eqb, Bor, ℤ, pos, negsuc, neg_ℤ, ◌+ℤ◌, ◌-ℤ◌, FitsSigned, Option, Some, None, Result, Ok, Err, Fits, w64, encode_utf8, append_assoc, append-nil, zero-add, length-append, chars}
use Rattle.std.specs.Prelude.{if◌then◌else◌, unsigned_abs, int_lt}
use Rattle.std.proofs.Math.Nat.{mul-le-mul_left, mul-le-mul_right, pow-suc, div-add-mod, div-add-mod', div-le_self, div-div-eq-div-mul}
use Rattle.std.proofs.lemmas.Str.Pattern.{IsSplitOnceResult, split_once_first}
use Rattle.std.proofs.Math.Seq.{take-length, take-append_seam}
use Rattle.std.proofs.lemmas.Int.{ints}
use Rattle.std.proofs.lemmas.Str.{encode_ascii, IsUtf8-from_ascii, chars_from_encodes}
use Rattle.std.proofs.lemmas.Str.Ascii.{IsAscii-nil, IsAscii-cons, encodes-IsAscii}
use Rattle.std.proofs.lemmas.Str.{IsAscii-append}
use Rattle.std.specs.Str.{IsAscii}
use Rattle.std.proofs.lemmas.Fmt.{decimal_nonempty, digits_decimal, digits_value-decimal, decimal_digit, first_decimal}
use Rattle.std.specs.Fmt.{decimal}
use Rattle.std.specs.Char.{is_ascii_digit, digit_value}
use Rattle.std.specs.List.{list_all, position_or_len, before_first, after_first}
use Rattle.std.specs.Option.{MatchOption, SomeIff, option_map, option_and_then}
use Rattle.std.specs.Result.{result_ok}
use Rattle.std.specs.Str.Parse.{digits_value, digits_value_after, ParsesUnsigned}
use Rattle.std.proofs.lemmas.Str.Parse.{IsDigitsTest, IsNumeralModel, numerals_by_value, parse_digits, digits_value_short}
use Rattle.dv_value.specs.Digits.{places}
use Rattle.dv_value.specs.Amount.{is_whole, is_decimals, whole_of, decimals_of, decimals_after, is_point, magnitude_of, amount_of, in_range, decimals_text, magnitude_text, amount_text}

-- texts of digits
digits_test : IsDigitsTest (λ ds. list_all is_ascii_digit ds ≡ true)
digits_test = search rules

pub own : IsNumeralModel (λ ds. list_all is_ascii_digit ds ≡ true) (digits_value 10)
own = numerals_by_value _ digits_test

pub both : (a b : Bool) → (a && b) ≡ true → (a ≡ true) × (b ≡ true)
both true true e = (refl, refl)
both true false e = (refl, e)
both false b e = absurd (cc)

pub whole_digits : (text : List ℕ) → is_whole text ≡ true → (list_all is_ascii_digit text ≡ true) × (0 < length text)
unfolding is_whole
whole_digits text e =
    let (front, digits) = both _ _ e in
    let (some, _) = both _ _ front in
    (digits, ltb-true 0 (length text) some)

pub decimals_digits : (scale : ℕ) (text : List ℕ) → is_decimals scale text ≡ true → (list_all is_ascii_digit text ≡ true) × (0 < length text) × (length text ≤ scale)
unfolding is_decimals
decimals_digits scale text e =
    let (front, digits) = both _ _ e in
    let (some, most) = both _ _ front in
    (digits, ltb-true 0 (length text) some, leb-true (length text) scale most)

-- what `parse` gives of whole digits
pub parsed_whole : {E : Type 0} (text : List ℕ) (r : Result ℕ E) → is_whole text ≡ true → ParsesUnsigned 64 10 text r → MatchOption (whole_of text) (result_ok r ≡ None) (λ n. SomeIff (result_ok r) (n < 2 ^ 64) n)
unfolding whole_of
parsed_whole {E} text (Ok n) e h = let k = parse_digits own {E = E} 64 text (Ok n) h (whole_digits text e).0 in rw e (subst (λ m. m < 2 ^ 64) refl k.0.1, k.1)
parsed_whole {E} text (Err x) e h = let k = parse_digits own {E = E} 64 text (Err x) h (whole_digits text e).0 in rw e (λ small. k ((whole_digits text e).1, small))

pub not_whole : (text : List ℕ) (r : Option ℕ) → is_whole text ≡ false → r ≡ None → MatchOption (whole_of text) (r ≡ None) (λ n. SomeIff r (n < 2 ^ 64) n)
unfolding whole_of
not_whole text r e none = rw e none

digits_small : (scale : ℕ) (text : List ℕ) → scale ≤ 4 → is_decimals scale text ≡ true → digits_value 10 text < 10 ^ 4
digits_small scale text few e = let k = decimals_digits scale text e in digits_value_short own text 4 k.0 (omega (arith, k.2))

-- what `parse` gives of decimals
pub parsed_decimals : {E : Type 0} (scale : ℕ) (text : List ℕ) (n unit : ℕ) (r : Result ℕ E) → is_decimals scale text ≡ true → ParsesUnsigned 64 10 text r → r ≡ Ok n → unit ≡ 10 ^ (scale - length text) → Some (n * unit) ≡ decimals_of scale text
unfolding decimals_of
parsed_decimals scale text n unit r e h ok is = let k = parse_digits own 64 text r h (decimals_digits scale text e).0 in let v = rw ok at k in rw (e, is, v.1) refl

pub decimals_parse : {E : Type 0} (scale : ℕ) (text : List ℕ) (x : E) (r : Result ℕ E) → scale ≤ 4 → is_decimals scale text ≡ true → ParsesUnsigned 64 10 text r → r ≡ Err x → ⊥
decimals_parse scale text x r few e h err =
    let k = parse_digits own 64 text r h (decimals_digits scale text e).0 in
    let v = rw err at k in
    v ((decimals_digits scale text e).1, omega (arith, digits_small scale text few e))

pub decimals_fit : {E : Type 0} (scale : ℕ) (text : List ℕ) (n : ℕ) (r : Result ℕ E) → scale ≤ 4 → is_decimals scale text ≡ true → ParsesUnsigned 64 10 text r → r ≡ Ok n → n < 10 ^ 4
decimals_fit scale text n r few e h ok =
    let k = parse_digits own 64 text r h (decimals_digits scale text e).0 in
    let v = rw ok at k in
    omega (arith, v.1, digits_small scale text few e)

pub no_decimals : (scale : ℕ) (text : List ℕ) → is_decimals scale text ≡ false → None ≡ decimals_of scale text
unfolding decimals_of
no_decimals scale text e = rw e refl

product_below : (n u : ℕ) → n < 10 ^ 4 → u ≤ 10000 → n * u < 2 ^ 64
product_below n u small few = omega (arith, mul-le-mul_left n few, mul-le-mul_right 10000 small)

pub product_fits : (n u : ℕ) → n < 10 ^ 4 → u ≤ 10000 → Fits w64 (n * u)
product_fits n u small few = omega (arith, product_below n u small few)

abbrev joined_of : Option ℕ → Option ℕ → ℕ → Option ℕ
joined_of whole decimals unit = option_and_then (λ w. option_map (λ d. w * unit + d) decimals) whole

-- r is the number, or None where there is none or it is one of more than 64 bits
abbrev Fitting : Option ℕ → Option ℕ → Type 0
Fitting number r = MatchOption number (r ≡ None) (λ n. SomeIff r (n < 2 ^ 64) n)

le_product : (n u d : ℕ) → 0 < u → n * u + d < 2 ^ 64 → n < 2 ^ 64
le_product n u d some small = omega (arith, mul-le-mul_left n some)

no_whole : (whole decimals read r : Option ℕ) (unit : ℕ) → 0 < unit → Fitting whole read → read ≡ None → r ≡ None → Fitting (joined_of whole decimals unit) r
no_whole None decimals read r unit some fits none is = is
no_whole (Some w) None read r unit some fits none is = is
no_whole (Some w) (Some d) read r unit some fits none is = let big = rw none at fits in rw is (λ small. big (le_product w unit d some small))

no_fraction : (whole decimals r : Option ℕ) (unit : ℕ) → decimals ≡ None → r ≡ None → Fitting (joined_of whole decimals unit) r
no_fraction None decimals r unit none is = is
no_fraction (Some w) decimals r unit none is = rw none is

joined_is : (whole decimals read r : Option ℕ) (w d unit : ℕ) → Fitting whole read → read ≡ Some w → decimals ≡ Some d → SomeIff r (w * unit + d < 2 ^ 64) (w * unit + d) → Fitting (joined_of whole decimals unit) r
joined_is None decimals read r w d unit fits some is h = absurd (cc (fits, some))
joined_is (Some n) decimals read r w d unit fits some is h = let same = rw some at fits in rw (is, ← same.1) h

-- a text with a point, in the parts that `split_once` gives
pointed : (scale : ℕ) (text whole decimals : List ℕ) → position_or_len is_point text < length text → whole ≡ before_first is_point text → decimals ≡ after_first is_point text
    → magnitude_of scale text ≡ joined_of (whole_of whole) (decimals_of scale decimals) (10 ^ scale)
unfolding magnitude_of decimals_after
pointed scale text whole decimals at front back = rw (lt-ltb (position_or_len is_point text) (length text) at, front, back) refl

-- and one without
pointless : (scale : ℕ) (text : List ℕ) → position_or_len is_point text ≡ length text → magnitude_of scale text ≡ joined_of (whole_of text) (Some 0) (10 ^ scale)
unfolding magnitude_of decimals_after
pointless scale text none =
    let past : ltb (position_or_len is_point text) (length text) ≡ false = le-ltb (position_or_len is_point text) (length text) (omega arith) in
    rw (past, none, take-length text) refl

pub unit_of_some : (scale : ℕ) → 0 < 10 ^ scale
unit_of_some zero = omega arith
unit_of_some (suc scale) = omega (arith, pow-suc 10 scale, unit_of_some scale)

pub split_some : (text : List ℕ) (r : Option (Bor (List ℕ) × Bor (List ℕ))) (p : Bor (List ℕ) × Bor (List ℕ)) (scale : ℕ) → IsSplitOnceResult 46 text r → r ≡ Some p
    → magnitude_of scale text ≡ joined_of (whole_of p.0.now) (decimals_of scale p.1.now) (10 ^ scale)
split_some text r p scale h is =
    let parts = rw is at (split_once_first 46 text r h (omega arith)) in
    pointed scale text p.0.now p.1.now parts.0 parts.1 parts.2

pub split_none : (text : List ℕ) (r : Option (Bor (List ℕ) × Bor (List ℕ))) (scale : ℕ) → IsSplitOnceResult 46 text r → r ≡ None → magnitude_of scale text ≡ joined_of (whole_of text) (Some 0) (10 ^ scale)
split_none text r scale h is =
    let parts = rw is at (split_once_first 46 text r h (omega arith)) in
    pointless scale text parts

pub no_whole_at : (scale : ℕ) (number whole decimals read r : Option ℕ) → number ≡ joined_of whole decimals (10 ^ scale) → Fitting whole read → read ≡ None → r ≡ None → Fitting number r
no_whole_at scale number whole decimals read r e fits none is = rw e (no_whole whole decimals read r (10 ^ scale) (unit_of_some scale) fits none is)

pub no_fraction_at : (scale : ℕ) (number whole decimals r : Option ℕ) → number ≡ joined_of whole decimals (10 ^ scale) → decimals ≡ None → r ≡ None → Fitting number r
no_fraction_at scale number whole decimals r e none is = rw e (no_fraction whole decimals r (10 ^ scale) none is)

pub joined_at : (scale : ℕ) (number whole decimals read r : Option ℕ) (w d : ℕ) → number ≡ joined_of whole decimals (10 ^ scale) → Fitting whole read → read ≡ Some w → decimals ≡ Some d → SomeIff r (w * 10 ^ scale + d < 2 ^ 64) (w * 10 ^ scale + d) → Fitting number r
joined_at scale number whole decimals read r w d e fits some is h = rw e (joined_is whole decimals read r w d (10 ^ scale) fits some is h)

-- ---- the sign

in_range_is : (z : ℤ) (r : Option ℤ) → SomeIff r (FitsSigned w64 z) z → r ≡ in_range z
unfolding in_range
in_range_is (pos n) None none = let far : ¬ (n < 2 ^ 63) = (λ h. none (record { sfits = h })) in let past : ltb n (2 ^ 63) ≡ false = le-ltb n (2 ^ 63) (omega arith) in rw past refl
in_range_is (pos n) (Some z) some = let at : ltb n (2 ^ 63) ≡ true = lt-ltb n (2 ^ 63) some.0.sfits in rw (at, some.1) refl
in_range_is (negsuc n) None none = let far : ¬ (n < 2 ^ 63) = (λ h. none (record { sfits = h })) in let past : ltb n (2 ^ 63) ≡ false = le-ltb n (2 ^ 63) (omega arith) in rw past refl
in_range_is (negsuc n) (Some z) some = let at : ltb n (2 ^ 63) ≡ true = lt-ltb n (2 ^ 63) some.0.sfits in rw (at, some.1) refl

minus_is : (n : ℕ) → pos 0 -ℤ pos n ≡ neg_ℤ (pos n)
minus_is zero = refl
minus_is (suc n) = omega (arith, ints)

plus_is : (n : ℕ) → pos 0 +ℤ pos n ≡ pos n
plus_is n = omega (arith, ints)

beyond : (n : ℕ) → ¬ (n < 2 ^ 64) → (None ≡ in_range (neg_ℤ (pos n))) × (None ≡ in_range (pos n))
unfolding in_range
beyond zero big = absurd (big (omega arith))
beyond (suc n) big =
    let low : ltb n (2 ^ 63) ≡ false = le-ltb n (2 ^ 63) (omega arith) in
    let high : ltb (suc n) (2 ^ 63) ≡ false = le-ltb (suc n) (2 ^ 63) (omega arith) in
    (rw low refl, rw high refl)

none_signed : (number read : Option ℕ) → Fitting number read → read ≡ None → (None ≡ option_and_then (λ n. in_range (neg_ℤ (pos n))) number) × (None ≡ option_and_then (λ n. in_range (pos n)) number)
none_signed None read fits none = (refl, refl)
none_signed (Some n) read fits none = let big = rw none at fits in beyond n big

number_is : (number read : Option ℕ) (n : ℕ) → Fitting number read → read ≡ Some n → number ≡ Some n
number_is None read n fits some = absurd (cc (fits, some))
number_is (Some m) read n fits some = let same = rw some at fits in ap Some (sym same.1)

-- a text with a minus sign
pub no_negative : (scale : ℕ) (text rest : List ℕ) (read : Option ℕ) (r : Option ℤ) → text ≡ 45 ∷ rest → Fitting (magnitude_of scale rest) read → read ≡ None → r ≡ None → r ≡ amount_of scale text
unfolding amount_of
no_negative scale text rest read r is fits none e = rw (is, e) (none_signed _ read fits none).0

pub negative : (scale : ℕ) (text rest : List ℕ) (read : Option ℕ) (n : ℕ) (r : Option ℤ) → text ≡ 45 ∷ rest → Fitting (magnitude_of scale rest) read → read ≡ Some n → SomeIff r (FitsSigned w64 (pos 0 -ℤ pos n)) (pos 0 -ℤ pos n) → r ≡ amount_of scale text
unfolding amount_of
negative scale text rest read n r is fits some h = rw (is, number_is _ read n fits some) (in_range_is _ r h ∙ ap in_range (minus_is n))

-- and one without
unsigned : (scale : ℕ) (text : List ℕ) → ((rest : List ℕ) → text ≢ 45 ∷ rest) → amount_of scale text ≡ option_and_then (λ n. in_range (pos n)) (magnitude_of scale text)
unfolding amount_of magnitude_of whole_of is_whole
unsigned scale [] other = refl
unsigned scale (c ∷ text) other = let plain : eqb c 45 ≡ false = ne_eqb c 45 (λ e. other text (ap (λ d. d ∷ text) e)) in rw plain refl

pub no_positive : (scale : ℕ) (text : List ℕ) (read : Option ℕ) (r : Option ℤ) → ((rest : List ℕ) → text ≢ 45 ∷ rest) → Fitting (magnitude_of scale text) read → read ≡ None → r ≡ None → r ≡ amount_of scale text
no_positive scale text read r other fits none e = e ∙ (none_signed _ read fits none).1 ∙ sym (unsigned scale text other)

pub positive : (scale : ℕ) (text : List ℕ) (read : Option ℕ) (n : ℕ) (r : Option ℤ) → ((rest : List ℕ) → text ≢ 45 ∷ rest) → Fitting (magnitude_of scale text) read → read ≡ Some n → SomeIff r (FitsSigned w64 (pos 0 +ℤ pos n)) (pos 0 +ℤ pos n) → r ≡ amount_of scale text
positive scale text read n r other fits some h = in_range_is _ r h ∙ ap in_range (plus_is n) ∙ ap (option_and_then (λ m. in_range (pos m))) (sym (number_is _ read n fits some)) ∙ sym (unsigned scale text other)

-- ---- printing

-- one more place is written
pub place_more : (text new whole : List ℕ) (number place unit ch : ℕ) → 0 < place → unit ≡ 10 ^ (place - 1) → ch ≡ 48 + number / unit % 10 → new ≡ text ++ encode_utf8 ch → text ++ places place number ≡ whole → new ++ places (place - 1) number ≡ whole
unfolding places
place_more text new whole number zero unit ch some is digit more e = absurd (omega arith)
place_more text new whole number (suc place) unit ch some is digit more e =
    let less : suc place - 1 ≡ place = omega arith in
    let digit_is : ch ≡ 48 + number / 10 ^ place % 10 = rw (digit, is, less) refl in
    let ascii : encode_utf8 ch ≡ ch ∷ [] = encode_ascii ch (omega (arith, digit)) in
    rw (less, more, ascii, append_assoc text (ch ∷ []) (places place number), digit_is) e

-- and all are
pub places_all : (text whole : List ℕ) (number place : ℕ) → place ≡ 0 → text ++ places place number ≡ whole → text ≡ whole
unfolding places
places_all text whole number place none e = sym (append-nil text) ∙ ap (λ k. text ++ places k number) (sym none) ∙ e

-- ---- what is printed is read again

step_of : (n u q s d r m : ℕ) → n ≡ u * q + r → q ≡ 10 * s + d → n ≡ u * 10 * s + m → m ≡ d * u + r
step_of n u q s d r m whole digits rest = omega (arith, ap (λ x. u * x) digits)

mod_step : (n u : ℕ) → n % (u * 10) ≡ n / u % 10 * u + n % u
mod_step n u = step_of n u (n / u) (n / u / 10) (n / u % 10) (n % u) (n % (u * 10)) (sym (div-add-mod n u)) (sym (div-add-mod (n / u) 10)) (sym (div-add-mod n (u * 10)) ∙ ap (λ q. u * 10 * q + n % (u * 10)) (sym (div-div-eq-div-mul n u 10)))

after_step : (a d v p q all rest : ℕ) → all ≡ (a * 10 + d) * p + v → rest ≡ (0 * 10 + d) * p + v → q ≡ p * 10 → all ≡ a * q + rest
after_step a d v p q all rest first second power = omega (arith, ap (λ x. a * x) power)

after_value : (a : ℕ) (ds : List ℕ) → digits_value_after 10 a ds ≡ a * 10 ^ length ds + digits_value_after 10 0 ds
after_value a [] = omega arith
after_value a (d ∷ ds) = after_step a (digit_value d) (digits_value_after 10 0 ds) (10 ^ length ds) (10 ^ suc (length ds)) _ _ (after_value (a * 10 + digit_value d) ds) (after_value (0 * 10 + digit_value d) ds) (pow-suc 10 (length ds))

digit_of : (d : ℕ) → d < 10 → digit_value (48 + d) ≡ d
digit_of d small = rw (le-ltb (48 + d) 48 (omega arith), lt-ltb (48 + d) 58 (omega arith)) (omega arith)

length-places : (count n : ℕ) → length (places count n) ≡ count
unfolding places
length-places zero n = refl
length-places (suc count) n = ap suc (length-places count n)

value_of_places : (count n : ℕ) → digits_value 10 (places count n) ≡ n % 10 ^ count
unfolding places
value_of_places zero n = omega arith
value_of_places (suc count) n =
    let digit : digit_value (48 + n / 10 ^ count % 10) ≡ n / 10 ^ count % 10 = digit_of (n / 10 ^ count % 10) (omega arith) in
    after_value (0 * 10 + digit_value (48 + n / 10 ^ count % 10)) (places count n) ∙ rw (digit, length-places, value_of_places count n, pow-suc 10 count, zero-add (n / 10 ^ count % 10)) (sym (mod_step n (10 ^ count)))

pub no_digit : (d : ℕ) → is_ascii_digit d ≡ true → d < 48 → ⊥
no_digit d digit low = let least : leb 48 d ≡ true = (both _ _ digit).0 in omega (arith, leb-true 48 d least, low)

or_true : (a : Bool) → (a || true) ≡ true
or_true true = refl
or_true false = refl

lone_zero : (w : ℕ) → w < 2 ^ 64 → (leb (length (decimal w)) 1 || not (eqb (get_or (decimal w) 0 0) 48)) ≡ true
lone_zero zero fits = rw (decimal_digit 0 (omega arith)) refl
lone_zero (suc w) fits =
    let first : 48 < get_or (decimal (suc w)) 0 0 = first_decimal (suc w) (omega arith) fits in
    let other : eqb (get_or (decimal (suc w)) 0 0) 48 ≡ false = ne_eqb (get_or (decimal (suc w)) 0 0) 48 (λ e. omega (arith, e, first)) in
    rw (other, or_true) refl

digit_char : (d : ℕ) → d < 10 → is_ascii_digit (48 + d) ≡ true
digit_char d small = rw (le-leb 48 (48 + d) (omega arith), le-leb (48 + d) 57 (omega arith)) refl

digits_of_places : (count n : ℕ) → list_all is_ascii_digit (places count n) ≡ true
unfolding places
digits_of_places zero n = refl
digits_of_places (suc count) n = rw (digit_char (n / 10 ^ count % 10) (omega arith), digits_of_places count n) refl

point_after : (ds rest : List ℕ) → list_all is_ascii_digit ds ≡ true → position_or_len is_point (ds ++ 46 ∷ rest) ≡ length ds
point_after [] rest digits = refl
point_after (d ∷ ds) rest digits =
    let (first, others) = both _ _ digits in
    let other : eqb d 46 ≡ false = ne_eqb d 46 (λ e. no_digit d first (omega (arith, e))) in
    rw other (omega (arith, point_after ds rest others))

no_point : (ds : List ℕ) → list_all is_ascii_digit ds ≡ true → position_or_len is_point ds ≡ length ds
no_point [] digits = refl
no_point (d ∷ ds) digits =
    let (first, others) = both _ _ digits in
    let other : eqb d 46 ≡ false = ne_eqb d 46 (λ e. no_digit d first (omega (arith, e))) in
    rw other (omega (arith, no_point ds others))

whole_of-decimal : (w : ℕ) → w < 2 ^ 64 → whole_of (decimal w) ≡ Some w
unfolding whole_of is_whole
whole_of-decimal w fits =
    let some : ltb 0 (length (decimal w)) ≡ true = lt-ltb 0 (length (decimal w)) (decimal_nonempty w fits) in
    let digits : list_all is_ascii_digit (decimal w) ≡ true = digits_decimal own w fits in
    let value : digits_value 10 (decimal w) ≡ w = digits_value-decimal own w fits in
    rw (some, digits, lone_zero w fits, value) refl

decimals_of-places : (scale n : ℕ) → 0 < scale → decimals_of scale (places scale n) ≡ Some (n % 10 ^ scale)
unfolding decimals_of is_decimals
decimals_of-places scale n some =
    let none_left : scale - scale ≡ 0 = omega arith in
    rw (length-places, lt-ltb 0 scale some, le-leb scale scale (omega arith), digits_of_places scale n, value_of_places scale n, none_left) (ap Some (omega arith))

pub drop_past : (xs ys : List ℕ) (c : ℕ) → drop (length xs + 1) (xs ++ c ∷ ys) ≡ ys
drop_past [] ys c = refl
drop_past (x ∷ xs) ys c =
    let more : suc (length xs) + 1 ≡ suc (length xs + 1) = omega arith in
    ap (λ n. drop n (x ∷ (xs ++ c ∷ ys))) more ∙ drop_past xs ys c

some_decimals : (scale n : ℕ) → decimals_text (suc scale) n ≡ 46 ∷ places (suc scale) n
unfolding decimals_text
some_decimals scale n = rw (ne_eqb (suc scale) 0 (λ e. absurd (omega (arith, e)))) refl

magnitude_of-text : (scale n : ℕ) → n < 2 ^ 64 → magnitude_of scale (magnitude_text scale n) ≡ Some n
unfolding decimals_text
magnitude_of-text zero n fits =
    let w : ℕ = n / 10 ^ 0 in
    let small : w < 2 ^ 64 = omega arith in
    let all : w * 10 ^ 0 + 0 ≡ n = omega arith in
    ap (magnitude_of 0) (append-nil (decimal w)) ∙ pointless 0 (decimal w) (no_point (decimal w) (digits_decimal own w small))
    ∙ ap (λ o. joined_of o (Some 0) (10 ^ 0)) (whole_of-decimal w small) ∙ ap Some all
magnitude_of-text (suc scale) n fits =
    let unit : ℕ = 10 ^ suc scale in
    let w : ℕ = n / unit in
    let small : w < 2 ^ 64 = omega (arith, div-le_self n unit) in
    let decimals : List ℕ = places (suc scale) n in
    let at : position_or_len is_point (decimal w ++ 46 ∷ decimals) ≡ length (decimal w) = point_after (decimal w) decimals (digits_decimal own w small) in
    let inside : position_or_len is_point (decimal w ++ 46 ∷ decimals) < length (decimal w ++ 46 ∷ decimals) = omega (arith, at, length-append (decimal w) (46 ∷ decimals)) in
    let front : decimal w ≡ before_first is_point (decimal w ++ 46 ∷ decimals) = sym (ap (λ k. take k (decimal w ++ 46 ∷ decimals)) at ∙ take-append_seam (decimal w) (46 ∷ decimals)) in
    let back : decimals ≡ after_first is_point (decimal w ++ 46 ∷ decimals) = sym (ap (λ k. drop (k + 1) (decimal w ++ 46 ∷ decimals)) at ∙ drop_past (decimal w) decimals 46) in
    ap (λ tail. magnitude_of (suc scale) (decimal w ++ tail)) (some_decimals scale n)
    ∙ pointed (suc scale) (decimal w ++ 46 ∷ decimals) (decimal w) decimals inside front back
    ∙ ap (λ o. joined_of o (decimals_of (suc scale) decimals) unit) (whole_of-decimal w small)
    ∙ ap (λ o. joined_of (Some w) o unit) (decimals_of-places (suc scale) n (omega arith))
    ∙ ap Some (div-add-mod' n unit)

no_minus : (ds tail rest : List ℕ) → list_all is_ascii_digit ds ≡ true → 0 < length ds → ds ++ tail ≢ 45 ∷ rest
no_minus [] tail rest digits some e = absurd (omega arith)
no_minus (d ∷ ds) tail rest digits some e =
    let first : d ≡ 45 = cc e in
    no_digit d (both _ _ digits).0 (omega (arith, first))

-- what is printed is read again
pub amount_of-text : (scale : ℕ) (amount : ℤ) → FitsSigned w64 amount → amount_of scale (amount_text scale amount) ≡ Some amount
unfolding amount_of amount_text in_range
amount_of-text scale (pos n) fits =
    let high : n < 2 ^ 63 = fits.sfits in
    let w : ℕ = n / 10 ^ scale in
    let small : w < 2 ^ 64 = omega (arith, div-le_self n (10 ^ scale)) in
    unsigned scale (magnitude_text scale n) (λ rest. no_minus (decimal w) (decimals_text scale n) rest (digits_decimal own w small) (decimal_nonempty w small))
    ∙ ap (option_and_then (λ m. in_range (pos m))) (magnitude_of-text scale n (omega arith)) ∙ rw (lt-ltb n (2 ^ 63) high) refl
amount_of-text scale (negsuc n) fits =
    let high : n < 2 ^ 63 = fits.sfits in
    ap (option_and_then (λ m. in_range (neg_ℤ (pos m)))) (magnitude_of-text scale (suc n) (omega arith)) ∙ rw (lt-ltb n (2 ^ 63) high) refl

-- the parts that are printed
printed : (scale : ℕ) (amount : ℤ) → (if (int_lt amount (pos 0)) then (45 ∷ decimal (unsigned_abs amount / 10 ^ scale)) else (decimal (unsigned_abs amount / 10 ^ scale))) ++ decimals_text scale (unsigned_abs amount) ≡ amount_text scale amount
unfolding amount_text
printed scale (pos n) = rw (le-ltb n 0 (omega arith)) refl
printed scale (negsuc n) = refl

pub printed_at : (scale : ℕ) (amount : ℤ) (magnitude unit : ℕ) (front text : List ℕ) → magnitude ≡ unsigned_abs amount → unit ≡ 10 ^ scale
    → front ≡ (if (int_lt amount (pos 0)) then (45 ∷ decimal (magnitude / unit)) else (decimal (magnitude / unit))) → text ≡ front ++ decimals_text scale magnitude → text ≡ amount_text scale amount
printed_at scale amount magnitude unit front text size is first all = rw (all, first, size, is) (printed scale amount)

-- and they are ASCII
ascii_digits : (ds : List ℕ) → list_all is_ascii_digit ds ≡ true → IsAscii ds
ascii_digits [] digits = IsAscii-nil
ascii_digits (d ∷ ds) digits = IsAscii-cons d ds (omega (arith, leb-true d 57 (both _ _ (both _ _ digits).0).1)) (ascii_digits ds (both _ _ digits).1)

pub ascii_places : (count n : ℕ) → IsAscii (places count n)
ascii_places count n = ascii_digits (places count n) (digits_of_places count n)

ascii_decimals : (scale n : ℕ) → IsAscii (decimals_text scale n)
unfolding decimals_text
ascii_decimals zero n = IsAscii-nil
ascii_decimals (suc scale) n = rw (some_decimals scale n) (IsAscii-cons 46 (places (suc scale) n) (omega arith) (ascii_digits (places (suc scale) n) (digits_of_places (suc scale) n)))

ascii_magnitude : (scale n : ℕ) → n < 2 ^ 64 → IsAscii (magnitude_text scale n)
ascii_magnitude scale n fits = IsAscii-append (decimal (n / 10 ^ scale)) (decimals_text scale n) (ascii_digits (decimal (n / 10 ^ scale)) (digits_decimal own (n / 10 ^ scale) (omega (arith, div-le_self n (10 ^ scale))))) (ascii_decimals scale n)

pub ascii_amount : (scale : ℕ) (amount : ℤ) → FitsSigned w64 amount → IsAscii (amount_text scale amount)
unfolding amount_text
ascii_amount scale (pos n) fits = ascii_magnitude scale n (omega (arith, fits.sfits))
ascii_amount scale (negsuc n) fits = IsAscii-cons 45 (magnitude_text scale (suc n)) (omega arith) (ascii_magnitude scale (suc n) (omega (arith, fits.sfits)))

pub chars-ascii : (bytes : List ℕ) → IsAscii bytes → chars bytes ≡ bytes
chars-ascii bytes ascii = sym (chars_from_encodes bytes bytes (IsUtf8-from_ascii bytes ascii) (encodes-IsAscii bytes ascii))
