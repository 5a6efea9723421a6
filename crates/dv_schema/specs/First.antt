-- The first item of a list at which something is found.
use Rattle.std.specs.Prelude.{ℕ, ◌+◌, List, [], ◌∷◌, Option, None}
use Rattle.std.specs.Option.{option_or}

-- what is found at the first item that has something, where the items' places count from a number on
unfoldable pub first_from : {A B : Type 0} → (ℕ → A → Option B) → ℕ → List A → Option B
first_from found i [] = None
first_from found i (x ∷ xs) = option_or (found i x) (first_from found (i + 1) xs)

-- what is found at the first item that has something; each item is asked with its place
abbrev pub first : {A B : Type 0} → (ℕ → A → Option B) → List A → Option B
first found = first_from found 0
