-- What the items of a list stand for.
use Rattle.std.specs.Prelude.{List, [], ◌∷◌, Option, Some, None, option_map, option_and_then}

-- what each item of a list stands for, where each of them stands for something
unfoldable pub each_of : {A B : Type 0} → (A → Option B) → List A → Option (List B)
each_of said [] = Some []
each_of said (x ∷ xs) = option_and_then (λ y. option_map (λ ys. y ∷ ys) (each_of said xs)) (said x)

-- the same of what needn't be given
unfoldable pub if_given : {A B : Type 0} → (A → Option B) → Option A → Option (Option B)
if_given said None = Some None
if_given said (Some x) = option_map Some (said x)
