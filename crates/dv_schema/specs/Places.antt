-- The place of a fault is a path: member names joined by dots, and the places of items, counted from 0, in brackets.
use Rattle.std.specs.Prelude.{ℕ, List, ◌++◌, codes}
use Rattle.std.specs.Fmt.{decimal}
use Rattle.dv_schema.specs.declared.place.Place.{Place}
use Rattle.dv_schema.specs.declared.place.Place.TheVariants.{Table, Column, Relationship, Registration, BusinessUnit, Role, User, Team}

-- an item of a list
abbrev pub item_path : List ℕ → ℕ → List ℕ
item_path name i = name ++ (codes "[" ++ (decimal i ++ codes "]"))

-- the place as text
unfoldable pub path_of : Place → List ℕ
path_of (Table i) = item_path (codes "tables") i
path_of (Column i j) = item_path (codes "tables") i ++ item_path (codes ".columns") j
path_of (Relationship k) = item_path (codes "relationships") k
path_of (Registration k) = item_path (codes "steps") k
path_of (BusinessUnit k) = item_path (codes "units") k
path_of (Role k) = item_path (codes "roles") k
path_of (User k) = item_path (codes "users") k
path_of (Team k) = item_path (codes "teams") k
