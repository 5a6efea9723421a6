-- The places of ids, item by item.
use Rattle.std.proofs.Common.{◌≡◌, ℕ, ◌+◌, ◌<◌, ◌≤◌, List, [], ◌∷◌, ◌++◌, length, map, take, get_or, Option, Some, None, cond, eqb, sym, ap, ◌∙◌, arith, zero-add, subst}
use Rattle.std.specs.Option.{option_or}
use Rattle.std.proofs.lemmas.List.{map-append, take_more, take_all, length-map, length-take-le}
use Rattle.dv_opening.specs.declared.ids.Ids.{Ids}
use Rattle.dv_schema.specs.First.{first_from}
use Rattle.dv_opening.specs.Opening.{id_place}
use Rattle.dv_opening.specs.Seats.{place_in, Places}
use Rattle.dv_schema.proofs.FirstLaws.{first_from-push}

abbrev test : ℕ → ℕ → ℕ → Option ℕ
test q i x = cond (eqb q x) (Some i) None

-- one id more
pub Places-more : {X : Type 0} (f : X → ℕ) (xs : List X) (i : ℕ) (x : X) (old new : Ids) → i < length xs → x ≡ get_or xs i x → Places old (map f (take i xs))
    → ((q : ℕ) → place_in new q ≡ option_or (place_in old q) (cond (eqb q (f x)) (Some i) None)) → Places new (map f (take (i + 1) xs))
unfolding id_place
Places-more f xs i x old new within read found added q =
    let more : map f (take (i + 1) xs) ≡ map f (take i xs) ++ f x ∷ [] = ap (map f) (take_more xs i x within ∙ ap (λ y. take i xs ++ y ∷ []) (sym read)) ∙ map-append f (take i xs) (x ∷ []) in
    let count : length (map f (take i xs)) ≡ i = length-map (take i xs) f ∙ length-take-le i xs (omega arith) in
    added q ∙ ap (λ o. option_or o (test q i (f x))) (found q)
    ∙ sym (ap (first_from (test q) 0) more ∙ first_from-push (test q) 0 (map f (take i xs)) (f x)
    ∙ ap (λ k. option_or (first_from (test q) 0 (map f (take i xs))) (test q k (f x))) (zero-add (length (map f (take i xs))) ∙ count))

-- no ids
pub Places-nil : (ids : Ids) → ((q : ℕ) → place_in ids q ≡ None) → Places ids []
unfolding id_place first_from
Places-nil ids none q = none q

-- all items
pub Places-all : {X : Type 0} (f : X → ℕ) (xs : List X) (i : ℕ) (ids : Ids) → length xs ≤ i → Places ids (map f (take i xs)) → Places ids (map f xs)
Places-all {X} f xs i ids past found = let P : List X → Type 0 = λ ys. Places ids (map f ys) in subst P (take_all i xs past) found
