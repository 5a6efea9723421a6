-- A place is a path: the names of members joined by `.`, and items as `[i]`, counted from 0.
use Rattle.std.specs.Prelude.{ℕ, List, [], ◌∷◌, ◌++◌, Bool, true, false, codes, if◌then◌else◌}
use Rattle.std.specs.Fmt.{decimal}

-- one step into a value
pub data Step : Type 0 where
  into_member : List ℕ → Step
  into_item : ℕ → Step

-- whether a path begins with a member's name
unfoldable pub is_named : List Step → Bool
is_named [] = false
is_named (into_member name ∷ path) = true
is_named (into_item i ∷ path) = false

-- a step as it is written
unfoldable pub step_text : Step → List ℕ
step_text (into_member name) = name
step_text (into_item i) = codes "[" ++ decimal i ++ codes "]"

-- a path as it is written, in UTF-8: a dot stands between a step and the member that it goes on to
unfoldable pub path_text : List Step → List ℕ
path_text [] = []
path_text (step ∷ path) = step_text step ++ (if is_named path then codes "." else []) ++ path_text path
