-- What a search that finds nothing, or finds something first, says of each item.
use Rattle.std.proofs.Common.{◌≡◌, ℕ, ◌+◌, ◌≤◌, Bool, true, false, cond, ltb, List, [], ◌∷◌, ◌++◌, length, Option, Some, None, is_some, refl, sym, ap, ◌∙◌, arith, zero, suc, slice_get, true≢false}
use Rattle.std.specs.Prelude.{◌||◌, ◌&&◌, not, option_map, option_and_then, unwrap_or, position}
use Rattle.std.specs.List.{list_any, enumerate_from, position_or_len}
use Rattle.std.specs.Option.{option_or, option_map_or}
use Rattle.std.proofs.lemmas.List.Sums.{fails_before_first}
use Rattle.std.proofs.lemmas.Option.{slice_get_within, get_or_from_slice_get}
use Rattle.std.proofs.lemmas.Bool.Decides.{nat_tests}
use Rattle.dv_schema.specs.First.{first_from}

pub option_or-none : {A : Type 0} (a b : Option A) → option_or a b ≡ None → (a ≡ None) × (b ≡ None)
option_or-none None b e = (refl, e)
option_or-none (Some x) b e = absurd (cc)

pub option_map-none : {A B : Type 0} (f : A → B) (o : Option A) → option_map f o ≡ None → o ≡ None
option_map-none f None e = refl
option_map-none f (Some x) e = absurd (cc)

pub or-false : (a b : Bool) → (a || b) ≡ false → (a ≡ false) × (b ≡ false)
or-false true b e = absurd (true≢false e)
or-false false b e = (refl, e)

pub and-true : (a b : Bool) → (a && b) ≡ true → (a ≡ true) × (b ≡ true)
and-true true b e = (refl, e)
and-true false b e = absurd (true≢false (sym e))

pub and-rest : (a b : Bool) → a ≡ true → (a && b) ≡ false → b ≡ false
and-rest true b e f = f
and-rest false b e f = absurd (true≢false (sym e))

pub not-false : (a : Bool) → not a ≡ false → a ≡ true
not-false true e = refl
not-false false e = absurd (true≢false e)

pub and_then-some : {A B : Type 0} (f : A → Option B) (o : Option A) → is_some (option_and_then f o) ≡ true → (x : A) × ((o ≡ Some x) × (is_some (f x) ≡ true))
and_then-some f None e = absurd (true≢false (sym e))
and_then-some f (Some x) e = (x, (refl, e))

pub map_or-true : {A : Type 0} (f : A → Bool) (o : Option A) → option_map_or f o false ≡ true → (x : A) × ((o ≡ Some x) × (f x ≡ true))
map_or-true f None e = absurd (true≢false (sym e))
map_or-true f (Some x) e = (x, (refl, e))

pub map_or-false : {A : Type 0} (f : A → Bool) (o : Option A) → option_map_or f o true ≡ false → (x : A) × ((o ≡ Some x) × (f x ≡ false))
map_or-false f None e = absurd (true≢false e)
map_or-false f (Some x) e = (x, (refl, e))

-- what was found
pub found : (o : Option ℕ) → is_some o ≡ true → o ≡ Some (unwrap_or o 0)
found None e = absurd (true≢false (sym e))
found (Some k) e = refl

pub some_is : {A : Type 0} (o : Option A) (x : A) → o ≡ Some x → is_some o ≡ true
some_is o x e = ap is_some e

past : (n m : ℕ) (b : Bool) → ltb n m ≡ b → cond b (Some n) None ≡ None → m ≤ n
past n m true e f = absurd (cc)
past n m false e f = grind (arith, nat_tests)

-- an item fails a test that none passes
pub position-none : {X : Type 0} (p : X → Bool) (xs : List X) → position p xs ≡ None → (i : ℕ) (x : X) → slice_get xs i ≡ Some x → p x ≡ false
position-none p xs e i x at =
    let end = past (position_or_len p xs) (length xs) (ltb (position_or_len p xs) (length xs)) refl e in
    let within = slice_get_within xs i x at in
    ap p (sym (get_or_from_slice_get xs i x x at)) ∙ fails_before_first p xs i x (omega arith)

pub list_any-none : {X : Type 0} (p : X → Bool) (xs : List X) → list_any p xs ≡ false → (i : ℕ) (x : X) → slice_get xs i ≡ Some x → p x ≡ false
list_any-none p [] e i x at = absurd (cc)
list_any-none p (y ∷ ys) e zero x at =
    let same : y ≡ x = cc in
    ap p (sym same) ∙ (or-false (p y) (list_any p ys) e).0
list_any-none p (y ∷ ys) e (suc i) x at = list_any-none p ys (or-false (p y) (list_any p ys) e).1 i x at

pub first_from-none : {A B : Type 0} (found : ℕ → A → Option B) (k : ℕ) (xs : List A) → first_from found k xs ≡ None → (i : ℕ) (x : A) → slice_get xs i ≡ Some x → found (k + i) x ≡ None
unfolding first_from
first_from-none found k [] e i x at = absurd (cc)
first_from-none found k (y ∷ ys) e zero x at =
    let same : y ≡ x = cc in
    let place : k + 0 ≡ k = omega arith in
    ap (λ n. found n x) place ∙ ap (found k) (sym same) ∙ (option_or-none (found k y) (first_from found (k + 1) ys) e).0
first_from-none found k (y ∷ ys) e (suc i) x at =
    let place : k + suc i ≡ k + 1 + i = omega arith in
    ap (λ n. found n x) place ∙ first_from-none found (k + 1) ys (option_or-none (found k y) (first_from found (k + 1) ys) e).1 i x at

-- an item beside its place
pub slice_get-enumerate : {X : Type 0} (n : ℕ) (xs : List X) (i : ℕ) (x : X) → slice_get xs i ≡ Some x → slice_get (enumerate_from n xs) i ≡ Some (n + i, x)
slice_get-enumerate n [] i x at = absurd (cc)
slice_get-enumerate n (y ∷ ys) zero x at =
    let same : y ≡ x = cc in
    let place : n ≡ n + 0 = omega arith in
    ap (λ m. Some (m, y)) place ∙ ap (λ z. Some (n + 0, z)) same
slice_get-enumerate n (y ∷ ys) (suc i) x at =
    let place : n + 1 + i ≡ n + suc i = omega arith in
    slice_get-enumerate (n + 1) ys i x at ∙ ap (λ m. Some (m, x)) place

pub position_at-none : {X : Type 0} (p : ℕ × X → Bool) (xs : List X) → position p (enumerate_from 0 xs) ≡ None → (i : ℕ) (x : X) → slice_get xs i ≡ Some x → p (i, x) ≡ false
position_at-none p xs e i x at =
    let place : 0 + i ≡ i = omega arith in
    position-none p (enumerate_from 0 xs) e i (i, x) (slice_get-enumerate 0 xs i x at ∙ ap (λ m. Some (m, x)) place)

-- the first item that passes a test stands no later than one that does
abbrev pub places : {X : Type 0} → (X → Bool) → ℕ → X → Option ℕ
places test i x = cond (test x) (Some i) None

first_step : {X : Type 0} (test : X → Bool) (i k : ℕ) (y : X) (ys : List X) (b : Bool) → test y ≡ b
    → ((j : ℕ) × ((first_from (places test) (i + 1) ys ≡ Some j) × (j ≤ i + 1 + k)))
    → (j : ℕ) × ((first_from (places test) i (y ∷ ys) ≡ Some j) × (j ≤ i + suc k))
unfolding first_from
first_step test i k y ys true e rest = (i, (ap (λ b. option_or (cond b (Some i) None) (first_from (places test) (i + 1) ys)) e, omega arith))
first_step test i k y ys false e rest = (rest.0, (ap (λ b. option_or (cond b (Some i) None) (first_from (places test) (i + 1) ys)) e ∙ rest.1.0, omega (arith, rest.1.1)))

pub first_at : {X : Type 0} (test : X → Bool) (i : ℕ) (xs : List X) (k : ℕ) (x : X) → slice_get xs k ≡ Some x → test x ≡ true
    → (j : ℕ) × ((first_from (places test) i xs ≡ Some j) × (j ≤ i + k))
unfolding first_from
first_at test i [] k x at e = absurd (cc)
first_at test i (y ∷ ys) zero x at e =
    let same : y ≡ x = cc in
    (i, (ap (λ b. option_or (cond b (Some i) None) (first_from (places test) (i + 1) ys)) (ap test same ∙ e), omega arith))
first_at test i (y ∷ ys) (suc k) x at e = first_step test i k y ys (test y) refl (first_at test (i + 1) ys k x at e)

not_before : (j k : ℕ) → ltb j k ≡ false → j ≤ k → j ≡ k
not_before j k e le = grind (arith, nat_tests)

-- an item that passes a test is the first one where none stands before it
pub first_exact : {X : Type 0} (test : X → Bool) (xs : List X) (k : ℕ) (x : X) → slice_get xs k ≡ Some x → test x ≡ true
    → option_map_or (λ j. ltb j k) (first_from (places test) 0 xs) false ≡ false → first_from (places test) 0 xs ≡ Some k
first_exact test xs k x at e none =
    let first = first_at test 0 xs k x at e in
    let later : ltb first.0 k ≡ false = ap (λ o. option_map_or (λ j. ltb j k) o false) (sym first.1.0) ∙ none in
    first.1.0 ∙ ap Some (not_before first.0 k later (omega (arith, first.1.1)))

-- something is first where an item passes
pub first_any : {X : Type 0} (test : X → Bool) (i : ℕ) (xs : List X) → is_some (first_from (places test) i xs) ≡ list_any test xs
unfolding first_from
first_any test i [] = refl
first_any test i (y ∷ ys) = first_any_step (test y) (first_from (places test) (i + 1) ys) ∙ ap (λ b. test y || b) (first_any test (i + 1) ys)
  where
    first_any_step : (b : Bool) (rest : Option ℕ) → is_some (option_or (cond b (Some i) None) rest) ≡ (b || is_some rest)
    first_any_step true rest = refl
    first_any_step false rest = refl

pub list_any-append : {X : Type 0} (test : X → Bool) (xs ys : List X) → list_any test (xs ++ ys) ≡ (list_any test xs || list_any test ys)
list_any-append test [] ys = refl
list_any-append test (x ∷ xs) ys = ap (λ b. test x || b) (list_any-append test xs ys) ∙ assoc (test x) (list_any test xs) (list_any test ys)
  where
    assoc : (a b c : Bool) → (a || (b || c)) ≡ ((a || b) || c)
    assoc true b c = refl
    assoc false b c = refl

pub or-first : (a b : Bool) → a ≡ true → (a || b) ≡ true
or-first true b e = refl
or-first false b e = absurd (true≢false (sym e))

pub or-second : (a b : Bool) → b ≡ true → (a || b) ≡ true
or-second true b e = refl
or-second false b e = e
