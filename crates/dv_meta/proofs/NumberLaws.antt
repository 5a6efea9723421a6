-- Numbers are small.
use Rattle.std.proofs.Common.{◌≡◌, ℕ, ◌*◌, ◌<◌, ◌≤◌, List, [], ◌∷◌, ◌++◌, length, map, flat_map, Some, arith}
use Rattle.std.proofs.lemmas.List.{length-map, length-append}
use Rattle.dv_schema.specs.declared.draft.DraftColumn.{DraftColumn}
use Rattle.dv_schema.specs.declared.draft.DraftTable.{DraftTable}
use Rattle.dv_schema.specs.declared.draft.DraftRelationship.{DraftRelationship}
use Rattle.dv_meta.specs.Columns.{column_names, names_of, system_names}
use Rattle.dv_meta.specs.Named.{lookup_of, has_lookup}
use Rattle.dv_schema.specs.Names.{Name, place_of, same_name}
use Rattle.dv_schema.proofs.FirstLaws.{first_from-below}
use Rattle.dv_meta.proofs.IndexLaws.{length-names_by}
use Rattle.dv_meta.proofs.TakenLaws.{length-system_names}

-- a name's place is within the list
pub place_of-below : (names : List Name) (name : Name) (k : ℕ) → place_of names name ≡ Some k → k < length names
unfolding place_of
place_of-below names name k e = let h = first_from-below (same_name name) 0 names k e in omega arith

-- an item's place, by its name
pub place_of-below_items : {X : Type 0} (f : X → Name) (xs : List X) (name : Name) (k : ℕ) → place_of (map f xs) name ≡ Some k → k < length xs
place_of-below_items f xs name k e = omega (arith, place_of-below (map f xs) name k e, length-map xs f)

-- a lookup's relationship is within the list
pub lookup_of-below : (rs : List DraftRelationship) (table name : Name) (k : ℕ) → lookup_of rs table name ≡ Some k → k < length rs
unfolding lookup_of
lookup_of-below rs table name k e = let h = first_from-below (has_lookup table name) 0 rs k e in omega arith

length-flat_map-names : (columns : List DraftColumn) → length (flat_map names_of columns) ≤ 3 * length columns
length-flat_map-names [] = omega arith
length-flat_map-names (c ∷ cs) =
    let most = length-names_by c.form c.name in
    let rest = length-flat_map-names cs in
    omega (arith, length-append (names_of c) (flat_map names_of cs), most, rest)

-- a column's number is small
pub column-below : (table : DraftTable) (name : Name) (k : ℕ) → length table.columns ≤ 60 → place_of (column_names table) name ≡ Some k → k < 65536
unfolding column_names
column-below table name k few e =
    let within = place_of-below (system_names table.user_owned ++ flat_map names_of table.columns) name k e in
    let own = length-flat_map-names table.columns in
    let kept = length-system_names table.user_owned in
    omega (arith, length-append (system_names table.user_owned) (flat_map names_of table.columns))
