-- What is found first in a list that another one is mapped to.
use Rattle.std.proofs.Common.{◌≡◌, ℕ, ◌+◌, List, [], ◌∷◌, map, Option, refl, ap}
use Rattle.std.specs.Option.{option_or}
use Rattle.dv_schema.specs.First.{first_from}

pub first_from-map : {A B C : Type 0} (found : ℕ → B → Option C) (f : A → B) (i : ℕ) (xs : List A) → first_from found i (map f xs) ≡ first_from (λ j x. found j (f x)) i xs
unfolding first_from
first_from-map found f i [] = refl
first_from-map found f i (x ∷ xs) = ap (option_or (found i (f x))) (first_from-map found f (i + 1) xs)
