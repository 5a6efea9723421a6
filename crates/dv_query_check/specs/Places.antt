-- A place in a request is a path: member names joined by dots, and the places of items, counted from 0, in brackets.
use Rattle.std.specs.Prelude.{ℕ, List, ◌++◌, codes}
use Rattle.std.specs.Fmt.{decimal}

-- a member of the object at a place
abbrev pub member : List ℕ → List ℕ → List ℕ
member place name = place ++ codes "." ++ name

-- an item of the list at a place
abbrev pub item : List ℕ → ℕ → List ℕ
item place i = place ++ codes "[" ++ decimal i ++ codes "]"
