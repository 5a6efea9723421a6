-- What is found first in a list, item by item.
use Rattle.std.proofs.Common.{◌≡◌, ℕ, Bool, true, false, cond, ◌+◌, ◌<◌, ◌≤◌, List, [], ◌∷◌, ◌++◌, length, take, drop, get_or, Option, Some, None, refl, sym, ap, ◌∙◌, arith, add-zero, zero-add, zero, suc, slice_get}
use Rattle.std.specs.Option.{option_or}
use Rattle.std.proofs.lemmas.List.{drop_more, drop_all, take_more, length-take-le}
use Rattle.dv_schema.specs.First.{first_from}

pub option_or_assoc : {A : Type 0} (a b c : Option A) → option_or a (option_or b c) ≡ option_or (option_or a b) c
option_or_assoc None b c = refl
option_or_assoc (Some x) b c = refl

-- an item more at the end
pub first_from-push : {A B : Type 0} (found : ℕ → A → Option B) (i : ℕ) (xs : List A) (x : A) → first_from found i (xs ++ x ∷ []) ≡ option_or (first_from found i xs) (found (i + length xs) x)
unfolding first_from
first_from-push found i [] x = option_or-None (found i x) ∙ ap (λ k. found k x) (sym (add-zero i))
  where
    option_or-None : {B : Type 0} (o : Option B) → option_or o None ≡ o
    option_or-None None = refl
    option_or-None (Some y) = refl
first_from-push found i (y ∷ ys) x =
    let e : i + 1 + length ys ≡ i + length (y ∷ ys) = omega arith in
    ap (option_or (found i y)) (first_from-push found (i + 1) ys x ∙ ap (λ k. option_or (first_from found (i + 1) ys) (found k x)) e)
    ∙ option_or_assoc (found i y) (first_from found (i + 1) ys) (found (i + length (y ∷ ys)) x)

-- nothing is found at an item
pub first_from-more : {A B : Type 0} (found : ℕ → A → Option B) (xs : List A) (i : ℕ) (x : A) → i < length xs → x ≡ get_or xs i x → found i x ≡ None
    → first_from found i (drop i xs) ≡ first_from found (i + 1) (drop (i + 1) xs)
unfolding first_from
first_from-more found xs i x within read none =
    ap (first_from found i) (drop_more xs i x within) ∙ ap (λ y. option_or (found i y) (first_from found (i + 1) (drop (i + 1) xs))) (sym read)
    ∙ ap (λ o. option_or o (first_from found (i + 1) (drop (i + 1) xs))) none

-- something is found at an item
pub first_from-found : {A B : Type 0} (found : ℕ → A → Option B) (xs : List A) (i : ℕ) (x : A) (y : B) → i < length xs → x ≡ get_or xs i x → found i x ≡ Some y
    → first_from found i (drop i xs) ≡ Some y
unfolding first_from
first_from-found found xs i x y within read some =
    ap (first_from found i) (drop_more xs i x within) ∙ ap (λ z. option_or (found i z) (first_from found (i + 1) (drop (i + 1) xs))) (sym read)
    ∙ ap (λ o. option_or o (first_from found (i + 1) (drop (i + 1) xs))) some

-- no item is left
pub first_from-end : {A B : Type 0} (found : ℕ → A → Option B) (xs : List A) (i : ℕ) → length xs ≤ i → first_from found i (drop i xs) ≡ None
unfolding first_from
first_from-end found xs i past = ap (first_from found i) (drop_all i xs past)

-- the items so far, and one more
pub first_from-take-more : {A B : Type 0} (found : ℕ → A → Option B) (xs : List A) (i : ℕ) (x : A) → i < length xs → x ≡ get_or xs i x
    → first_from found 0 (take (i + 1) xs) ≡ option_or (first_from found 0 (take i xs)) (found i x)
first_from-take-more found xs i x within read =
    ap (first_from found 0) (take_more xs i x within ∙ ap (λ y. take i xs ++ y ∷ []) (sym read)) ∙ first_from-push found 0 (take i xs) x
    ∙ ap (λ k. option_or (first_from found 0 (take i xs)) (found k x)) (zero-add (length (take i xs)) ∙ length-take-le i xs (omega arith))

-- a list has an item at each place
pub item_at : {A : Type 0} (xs : List A) (i : ℕ) → i < length xs → (x : A) × ((slice_get xs i ≡ Some x) × (x ≡ get_or xs i x))
item_at [] i within = absurd (omega arith)
item_at (y ∷ ys) zero within = (y, (refl, refl))
item_at (y ∷ ys) (suc i) within = item_at ys i (omega arith)

-- nothing is found at a place
pub first_from-more_at : {A B : Type 0} (found : ℕ → A → Option B) (xs : List A) (i : ℕ) → i < length xs → ((x : A) → slice_get xs i ≡ Some x → found i x ≡ None)
    → first_from found i (drop i xs) ≡ first_from found (i + 1) (drop (i + 1) xs)
first_from-more_at found xs i within none = let item = item_at xs i within in first_from-more found xs i item.0 within item.1.1 (none item.0 item.1.0)

-- something is found at a place
pub first_from-found_at : {A B : Type 0} (found : ℕ → A → Option B) (xs : List A) (i : ℕ) (y : B) → i < length xs → ((x : A) → slice_get xs i ≡ Some x → found i x ≡ Some y)
    → first_from found i (drop i xs) ≡ Some y
first_from-found_at found xs i y within some = let item = item_at xs i within in first_from-found found xs i item.0 y within item.1.1 (some item.0 item.1.0)

below_at : (b : Bool) (i n k : ℕ) (rest : Option ℕ) → option_or (cond b (Some i) None) rest ≡ Some k → (rest ≡ Some k → k < i + 1 + n) → k < i + suc n
below_at true i n k rest e more = let same : i ≡ k = cc in omega arith
below_at false i n k rest e more = let h = more e in omega arith

-- the place of an item is within the list
pub first_from-below : {A : Type 0} (test : A → Bool) (i : ℕ) (xs : List A) (k : ℕ) → first_from (λ j x. cond (test x) (Some j) None) i xs ≡ Some k → k < i + length xs
unfolding first_from
first_from-below test i [] k e = absurd (cc)
first_from-below test i (x ∷ xs) k e = below_at (test x) i (length xs) k (first_from (λ j y. cond (test y) (Some j) None) (i + 1) xs) e (λ f. first_from-below test (i + 1) xs k f)
