-- What a list stands for, item by item.
use Rattle.std.proofs.Common.{◌≡◌, ℕ, ◌+◌, ◌<◌, ◌≤◌, List, [], ◌∷◌, ◌++◌, length, drop, get_or, map, Option, Some, None, option_map, option_and_then, refl, sym, ap, ◌∙◌}
use Rattle.std.proofs.lemmas.List.{drop_more, drop_all, append_assoc, append-nil}
use Rattle.dv_query_check.specs.Each.{each_of}

-- what the rest of a list stands for, behind what the items before it do
abbrev pub behind : {B : Type 0} → List B → Option (List B) → Option (List B)
behind made rest = option_map (λ ys. made ++ ys) rest

behind_one : {B : Type 0} (made : List B) (y : B) (rest : Option (List B)) → behind made (option_map (λ ys. y ∷ ys) rest) ≡ behind (made ++ y ∷ []) rest
behind_one made y None = refl
behind_one made y (Some ys) = ap Some (sym (append_assoc made (y ∷ []) ys))

-- nothing is before the first item
pub each-first : {B : Type 0} (o : Option (List B)) → o ≡ behind [] o
each-first None = refl
each-first (Some ys) = refl

-- an item that stands for something
pub each-more : {A B : Type 0} (said : A → Option B) (xs : List A) (i : ℕ) (x : A) (y : B) (made new : List B) → i < length xs → x ≡ get_or xs i x → said x ≡ Some y → new ≡ made ++ y ∷ []
    → behind made (each_of said (drop i xs)) ≡ behind new (each_of said (drop (i + 1) xs))
unfolding each_of
each-more said xs i x y made new within read e added =
    let rest = each_of said (drop (i + 1) xs) in
    let next : drop i xs ≡ x ∷ drop (i + 1) xs = drop_more xs i x within ∙ ap (λ z. z ∷ drop (i + 1) xs) (sym read) in
    ap (λ ys. behind made (each_of said ys)) next
    ∙ ap (λ o. behind made (option_and_then (λ z. option_map (λ ys. z ∷ ys) rest) o)) e
    ∙ behind_one made y rest
    ∙ ap (λ zs. behind zs rest) (sym added)

-- one that doesn't
pub each-none : {A B : Type 0} (said : A → Option B) (xs : List A) (i : ℕ) (x : A) (made : List B) → i < length xs → x ≡ get_or xs i x → said x ≡ None
    → behind made (each_of said (drop i xs)) ≡ None
unfolding each_of
each-none said xs i x made within read e =
    let rest = each_of said (drop (i + 1) xs) in
    let next : drop i xs ≡ x ∷ drop (i + 1) xs = drop_more xs i x within ∙ ap (λ z. z ∷ drop (i + 1) xs) (sym read) in
    ap (λ ys. behind made (each_of said ys)) next
    ∙ ap (λ o. behind made (option_and_then (λ z. option_map (λ ys. z ∷ ys) rest) o)) e

-- no item is left
pub each-end : {A B : Type 0} (said : A → Option B) (xs : List A) (i : ℕ) (made : List B) → length xs ≤ i → behind made (each_of said (drop i xs)) ≡ Some made
unfolding each_of
each-end said xs i made past = ap (λ ys. behind made (each_of said ys)) (drop_all i xs past) ∙ ap Some (append-nil made)

-- what a list stands for that another one is mapped to
pub each-map : {A B C : Type 0} (said : B → Option C) (f : A → B) (xs : List A) → each_of said (map f xs) ≡ each_of (λ x. said (f x)) xs
unfolding each_of
each-map said f [] = refl
each-map said f (x ∷ xs) = ap (λ rest. option_and_then (λ y. option_map (λ ys. y ∷ ys) rest) (said (f x))) (each-map said f xs)
