-- What is known of a query that has no fault.
use Rattle.std.proofs.Common.{◌≡◌, ℕ, zero, suc, ◌+◌, ◌<◌, ◌≤◌, Bool, true, false, not, ◌&&◌, ◌||◌, cond, List, [], ◌∷◌, length, nat_lt, get_or, slice_get, Option, Some, None, option_map, refl, sym, ap, ◌∙◌, arith}
use Rattle.std.specs.List.{position, position_or_len, find, list_any}
use Rattle.std.specs.Option.{option_or}
use Rattle.std.proofs.lemmas.Bool.{lt-ltb, ltb-false}
use Rattle.std.proofs.lemmas.List.Sums.{fails_before_first}
use Rattle.std.proofs.lemmas.Option.{slice_get_within, slice_get-get_or}
use Rattle.dv_schema.specs.First.{first, first_from}
use Rattle.dv_query_check.specs.Faults.{found_if}

-- neither of two has a fault
pub or_left : {A : Type 0} (a b : Option A) → option_or a b ≡ None → a ≡ None
or_left None b e = refl
or_left (Some x) b e = absurd (cc)

pub or_right : {A : Type 0} (a b : Option A) → option_or a b ≡ None → b ≡ None
or_right None b e = e
or_right (Some x) b e = absurd (cc)

-- nothing is told where nothing was found
pub map_none : {A B : Type 0} (f : A → B) (o : Option A) → option_map f o ≡ None → o ≡ None
map_none f None e = refl
map_none f (Some x) e = absurd (cc)

-- a test that finds nothing fails
pub if_none : {A : Type 0} (test : Bool) (x : A) → found_if test x ≡ None → test ≡ false
if_none true x e = absurd (cc)
if_none false x e = refl

pub holds : (b : Bool) → not b ≡ false → b ≡ true
holds true e = refl
holds false e = absurd (cc)

-- so what it denies holds
pub unless_none : {A : Type 0} (test : Bool) (x : A) → found_if (not test) x ≡ None → test ≡ true
unless_none test x e = holds test (if_none (not test) x e)

-- both hold
pub and_left : (a b : Bool) → (a && b) ≡ true → a ≡ true
and_left true b e = refl
and_left false b e = absurd (cc)

pub and_right : (a b : Bool) → (a && b) ≡ true → b ≡ true
and_right true b e = e
and_right false b e = absurd (cc)

-- a test that holds beside one that fails
pub and_fails : (a b : Bool) → (a && b) ≡ false → b ≡ true → a ≡ false
and_fails true b e f = absurd (cc)
and_fails false b e f = refl

pub not_true : (b : Bool) → not b ≡ true → b ≡ false
not_true true e = absurd (cc)
not_true false e = refl

-- a test that both holds and fails
pub clash : {A : Type 0} (b : Bool) → not b ≡ true → b ≡ true → A
clash true e f = absurd (cc)
clash false e f = absurd (cc)

-- a list with an item isn't empty
pub has_some : {A : Type 0} (xs : List A) (k : ℕ) (x : A) → slice_get xs k ≡ Some x → nat_lt 0 (length xs) ≡ true
has_some [] zero x at = absurd (cc)
has_some [] (suc k) x at = absurd (cc)
has_some (y ∷ ys) k x at = lt-ltb _ _ (omega arith)

plus_zero : (i : ℕ) → i + zero ≡ i
plus_zero i = omega arith

plus_suc : (i k : ℕ) → i + suc k ≡ (i + 1) + k
plus_suc i k = omega arith

-- nothing is found at an item
none_from : {A B : Type 0} (found : ℕ → A → Option B) (i : ℕ) (xs : List A) (k : ℕ) (x : A) → first_from found i xs ≡ None → slice_get xs k ≡ Some x → found (i + k) x ≡ None
unfolding first_from
none_from found i [] zero x e at = absurd (cc)
none_from found i [] (suc k) x e at = absurd (cc)
none_from found i (y ∷ ys) zero x e at = let same : y ≡ x = cc in ap (λ n. found n x) (plus_zero i) ∙ ap (found i) (sym same) ∙ or_left (found i y) (first_from found (i + 1) ys) e
none_from found i (y ∷ ys) (suc k) x e at = ap (λ n. found n x) (plus_suc i k) ∙ none_from found (i + 1) ys k x (or_right (found i y) (first_from found (i + 1) ys) e) at

from_zero : (k : ℕ) → 0 + k ≡ k
from_zero k = omega arith

pub none_at : {A B : Type 0} (found : ℕ → A → Option B) (xs : List A) (k : ℕ) (x : A) → first found xs ≡ None → slice_get xs k ≡ Some x → found k x ≡ None
none_at found xs k x e at = ap (λ n. found n x) (sym (from_zero k)) ∙ none_from found 0 xs k x e at

not_below : (b : Bool) (n : ℕ) → cond b (Some n) None ≡ None → b ≡ false
not_below true n e = absurd (cc)
not_below false n e = refl

pub some_same : {A : Type 0} (x y : A) → Some x ≡ Some y → x ≡ y
some_same x y e = cc

-- no item passes a test
pub fails_at : {A : Type 0} (p : A → Bool) (xs : List A) (k : ℕ) (x : A) → position p xs ≡ None → slice_get xs k ≡ Some x → p x ≡ false
fails_at p xs k x e at =
    let within : k < length xs = slice_get_within xs k x at in
    let past : length xs ≤ position_or_len p xs = ltb-false _ _ (not_below _ _ e) in
    let read : get_or xs k x ≡ x = some_same _ _ (sym (slice_get-get_or xs k x within) ∙ at) in
    ap p (sym read) ∙ fails_before_first p xs k x (omega arith)

or_fails_left : (a b : Bool) → (a || b) ≡ false → a ≡ false
or_fails_left true b e = absurd (cc)
or_fails_left false b e = refl

or_fails_right : (a b : Bool) → (a || b) ≡ false → b ≡ false
or_fails_right true b e = absurd (cc)
or_fails_right false b e = e

-- no item passes a test that none of them passes
pub any_fails_at : {A : Type 0} (p : A → Bool) (xs : List A) (k : ℕ) (x : A) → list_any p xs ≡ false → slice_get xs k ≡ Some x → p x ≡ false
any_fails_at p [] zero x e at = absurd (cc)
any_fails_at p [] (suc k) x e at = absurd (cc)
any_fails_at p (y ∷ ys) zero x e at = ap p (some_same x y (sym at)) ∙ or_fails_left (p y) (list_any p ys) e
any_fails_at p (y ∷ ys) (suc k) x e at = any_fails_at p ys k x (or_fails_right (p y) (list_any p ys) e) at

-- an item that is found has a place, and passes the test
pub found_at : {A : Type 0} (p : A → Bool) (xs : List A) (x : A) → find p xs ≡ Some x → (k : ℕ) × (slice_get xs k ≡ Some x) × (p x ≡ true)
found_at p [] x e = absurd (cc)
found_at p (y ∷ ys) x e = go (p y) refl (λ f. found_at p ys x f) e
  where
    go : (b : Bool) → p y ≡ b → (find p ys ≡ Some x → (k : ℕ) × (slice_get ys k ≡ Some x) × (p x ≡ true)) → cond b (Some y) (find p ys) ≡ Some x → (k : ℕ) × (slice_get (y ∷ ys) k ≡ Some x) × (p x ≡ true)
    go true is more f = (zero, f, ap p (some_same x y (sym f)) ∙ is)
    go false is more f = let rest = more f in (suc rest.0, rest.1, rest.2)
