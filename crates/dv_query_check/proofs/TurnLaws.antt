-- What is listed of the items of a list, item by item.
use Rattle.std.proofs.Common.{◌≡◌, ℕ, ◌+◌, ◌<◌, ◌≤◌, List, ◌∷◌, ◌++◌, length, drop, get_or, map, sym, ap, ◌∙◌, arith}
use Rattle.std.proofs.lemmas.List.{drop_more, drop_all, append_assoc, append-nil, length-append}
use Rattle.dv_query_check.specs.Filters.{in_turn}
use Rattle.dv_query_check.specs.Links.{LinkAt, links_in_turn}
use Rattle.dv_query_check.specs.Places.{item}

-- one item more
pub turn_more : {X A : Type 0} (f : X → List ℕ → List A) (place : List ℕ) (xs : List X) (i : ℕ) (x : X) (old new : List A) → i < length xs → x ≡ get_or xs i x → new ≡ old ++ f x (item place i)
    → old ++ in_turn place i (map f (drop i xs)) ≡ new ++ in_turn place (i + 1) (map f (drop (i + 1) xs))
unfolding in_turn
turn_more f place xs i x old new within read e =
    let next : drop i xs ≡ x ∷ drop (i + 1) xs = drop_more xs i x within ∙ ap (λ y. y ∷ drop (i + 1) xs) (sym read) in
    ap (λ ys. old ++ in_turn place i (map f ys)) next
    ∙ sym (append_assoc old (f x (item place i)) (in_turn place (i + 1) (map f (drop (i + 1) xs))))
    ∙ ap (λ ys. ys ++ in_turn place (i + 1) (map f (drop (i + 1) xs))) (sym e)

-- no item is left
pub turn_end : {X A : Type 0} (f : X → List ℕ → List A) (place : List ℕ) (xs : List X) (i : ℕ) (new : List A) → length xs ≤ i → new ++ in_turn place i (map f (drop i xs)) ≡ new
unfolding in_turn
turn_end f place xs i new past = ap (λ ys. new ++ in_turn place i (map f ys)) (drop_all i xs past) ∙ append-nil new

-- the number after those of a list
number_after : (n m : ℕ) → (n + 1) + m ≡ (n + m) + 1
number_after n m = omega arith

next_number : {A : Type 0} (old listed new : List A) → new ≡ old ++ listed → (length old + 1) + length listed ≡ length new + 1
next_number old listed new e = number_after (length old) (length listed) ∙ ap (λ n. n + 1) (sym (length-append old listed)) ∙ ap (λ xs. length xs + 1) (sym e)

-- one link more
pub links_more : {X : Type 0} (f : X → ℕ → List ℕ → List LinkAt) (place : List ℕ) (xs : List X) (i : ℕ) (x : X) (old new : List LinkAt) → i < length xs → x ≡ get_or xs i x → new ≡ old ++ f x (length old + 1) (item place i)
    → old ++ links_in_turn place i (length old + 1) (map f (drop i xs)) ≡ new ++ links_in_turn place (i + 1) (length new + 1) (map f (drop (i + 1) xs))
unfolding links_in_turn
links_more f place xs i x old new within read e =
    let listed = f x (length old + 1) (item place i) in
    let rest : ℕ → List LinkAt = λ n. links_in_turn place (i + 1) n (map f (drop (i + 1) xs)) in
    let next : drop i xs ≡ x ∷ drop (i + 1) xs = drop_more xs i x within ∙ ap (λ y. y ∷ drop (i + 1) xs) (sym read) in
    ap (λ ys. old ++ links_in_turn place i (length old + 1) (map f ys)) next
    ∙ ap (λ n. old ++ (listed ++ rest n)) (next_number old listed new e)
    ∙ sym (append_assoc old listed (rest (length new + 1)))
    ∙ ap (λ ys. ys ++ rest (length new + 1)) (sym e)

-- no link is left
pub links_end : {X : Type 0} (f : X → ℕ → List ℕ → List LinkAt) (place : List ℕ) (xs : List X) (i : ℕ) (old : List LinkAt) → length xs ≤ i → old ++ links_in_turn place i (length old + 1) (map f (drop i xs)) ≡ old
unfolding links_in_turn
links_end f place xs i old past = ap (λ ys. old ++ links_in_turn place i (length old + 1) (map f ys)) (drop_all i xs past) ∙ append-nil old
