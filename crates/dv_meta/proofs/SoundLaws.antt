-- The numbers of a definition, from the names that its text resolves.
use Rattle.std.proofs.Common.{◌≡◌, ℕ, ◌+◌, ◌<◌, Bool, true, false, cond, List, [], ◌∷◌, ◌++◌, length, map, take, flat_map, Option, Some, None, refl, sym, ap, ◌∙◌, arith, zero, suc, subst, slice_get}
use Rattle.std.specs.Prelude.{◌&&◌, not, option_map, option_and_then, encode_utf8_all, codes}
use Rattle.std.specs.List.{list_any}
use Rattle.std.specs.Option.{option_or, option_map_or}
use Rattle.std.specs.Str.{bytes_eq}
use Rattle.std.proofs.lemmas.List.{length-map, length-append}
use Rattle.std.proofs.lemmas.Option.{slice_get-map}
use Rattle.dv_value.specs.declared.kind.Kind.{Kind}
use Rattle.dv_value.specs.declared.kind.Kind.TheVariants.{Ref, Moment, Amount}
use Rattle.dv_schema.specs.declared.definition.Definition.{Definition}
use Rattle.dv_schema.specs.declared.draft.Draft.{Draft}
use Rattle.dv_schema.specs.declared.draft.DraftColumn.{DraftColumn}
use Rattle.dv_schema.specs.declared.draft.DraftForm.{DraftForm}
use Rattle.dv_schema.specs.declared.draft.DraftForm.TheVariants as form
use Rattle.dv_schema.specs.declared.draft.DraftRelationship.{DraftRelationship}
use Rattle.dv_schema.specs.declared.draft.DraftRollup.{DraftRollup}
use Rattle.dv_schema.specs.declared.draft.DraftTable.{DraftTable}
use Rattle.dv_schema.specs.declared.registration.Registration.{Registration}
use Rattle.dv_schema.specs.declared.relationship.Relationship.{Relationship}
use Rattle.dv_schema.specs.declared.table.Column.{Column}
use Rattle.dv_schema.specs.declared.table.ColumnRole.TheVariants as role
use Rattle.dv_schema.specs.declared.table.Table.{Table}
use Rattle.dv_schema.specs.Definitions.{tables_of, steps_of}
use Rattle.dv_schema.specs.First.{first_from}
use Rattle.dv_schema.specs.Limits.{IsWithinLimits}
use Rattle.dv_schema.specs.Names.{Name, place_of, same_name, stands_before}
use Rattle.dv_schema.specs.Sound.{IsSound, IsSoundRole, IsSoundLookup, IsSoundRelationship, relationship_at, table_at, system_count, has_owners, is_parental as is_parental_one}
use Rattle.dv_meta.specs.Accepted.{IsDefinitionOf, table_of, relationship_of, registration_of, columns_of, columns_by, rollup_of, rollup_column, companion, any_whole, number_of, number_in_table, table_number}
use Rattle.dv_meta.specs.Columns.{column_names, column_number, own_names, names_by, names_of, system_names, system_columns, system_column, owner_columns, states, state_name, date_name}
use Rattle.dv_meta.specs.NameTaken.{name_taken, taken_in_tables, taken_at_table, taken_in, takes_name}
use Rattle.dv_meta.specs.Named.{table_names, relationship_names, table_named, relationship_named, column_named, own_column, lookup_of, has_lookup, lookup_number}
use Rattle.dv_meta.specs.Relations.{is_parental, parental_of, clashes, has_no_owners}
use Rattle.dv_meta.specs.Resolved.{IsFound, IsTable, IsResolved, IsResolvedForm, IsResolvedRelationship, IsCalculable}
use Rattle.dv_meta.specs.Rollups.{goes_over}
use Rattle.dv_meta.proofs.FoundLaws.{option_or-none, option_map-none, or-false, and-true, and-rest, not-false, map_or-true, first_from-none, first_exact, places}
use Rattle.dv_meta.proofs.NumberLaws.{place_of-below_items}
use Rattle.dv_meta.proofs.NumbersLaws.{same_bytes, same_name-sym}
use Rattle.dv_meta.proofs.ResolvedLaws.{same_name-refl}

option_map-some : {A B : Type 0} (f : A → B) (o : Option A) (y : B) → option_map f o ≡ Some y → (x : A) × ((o ≡ Some x) × (f x ≡ y))
option_map-some f None y e = absurd (cc)
option_map-some f (Some x) y e = let same : f x ≡ y = cc in (x, (refl, same))

option_and_then-some : {A B : Type 0} (f : A → Option B) (o : Option A) (y : B) → option_and_then f o ≡ Some y → (x : A) × ((o ≡ Some x) × (f x ≡ Some y))
option_and_then-some f None y e = absurd (cc)
option_and_then-some f (Some x) y e = (x, (refl, e))

same-some : {A : Type 0} (o : Option A) (x y : A) → o ≡ Some x → o ≡ Some y → x ≡ y
same-some o x y e f = let both : Some x ≡ Some y = sym e ∙ f in cc

-- what stands at a place of a mapped list
map-at : {A B : Type 0} (f : A → B) (xs : List A) (k : ℕ) (y : B) → slice_get (map f xs) k ≡ Some y → (x : A) × ((slice_get xs k ≡ Some x) × (f x ≡ y))
map-at f xs k y e = option_map-some f (slice_get xs k) y (sym (slice_get-map f xs k) ∙ e)

at-map : {A B : Type 0} (f : A → B) (xs : List A) (k : ℕ) (x : A) → slice_get xs k ≡ Some x → slice_get (map f xs) k ≡ Some (f x)
at-map f xs k x e = slice_get-map f xs k ∙ ap (option_map f) e

found_step : {X : Type 0} (test : X → Bool) (i j : ℕ) (y : X) (ys : List X) (b : Bool) → test y ≡ b → option_or (cond b (Some i) None) (first_from (places test) (i + 1) ys) ≡ Some j
    → (first_from (places test) (i + 1) ys ≡ Some j → (k : ℕ) × ((x : X) × ((j ≡ i + 1 + k) × ((slice_get ys k ≡ Some x) × (test x ≡ true)))))
    → (k : ℕ) × ((x : X) × ((j ≡ i + k) × ((slice_get (y ∷ ys) k ≡ Some x) × (test x ≡ true))))
found_step test i j y ys true e f rest =
    let same : i ≡ j = cc in
    (0, (y, (omega (arith, same), (refl, e))))
found_step test i j y ys false e f rest =
    let later = rest f in
    (suc later.0, (later.1.0, (omega (arith, later.1.1.0), (later.1.1.1.0, later.1.1.1.1))))

-- what was found first passes the test
first-found : {X : Type 0} (test : X → Bool) (i : ℕ) (xs : List X) (j : ℕ) → first_from (places test) i xs ≡ Some j → (k : ℕ) × ((x : X) × ((j ≡ i + k) × ((slice_get xs k ≡ Some x) × (test x ≡ true))))
unfolding first_from
first-found test i [] j e = absurd (cc)
first-found test i (y ∷ ys) j e = found_step test i j y ys (test y) refl e (λ f. first-found test (i + 1) ys j f)

-- the name that was found is the name that was looked for
place-name : (names : List Name) (name : Name) (n : ℕ) (there : Name) → place_of names name ≡ Some n → slice_get names n ≡ Some there → same_name name there ≡ true
unfolding place_of
place-name names name n there e at =
    let hit = first-found (same_name name) 0 names n e in
    let place : n ≡ hit.0 = omega (arith, hit.1.1.0) in
    let same = same-some (slice_get names n) there hit.1.0 at (ap (slice_get names) place ∙ hit.1.1.1.0) in
    ap (same_name name) same ∙ hit.1.1.1.1

-- one name has one place
place_of-same : (names : List Name) (a b : Name) → same_name a b ≡ true → place_of names a ≡ place_of names b
unfolding place_of
place_of-same names a b e = ap (λ bytes. first_from (λ i x. cond (bytes_eq bytes (encode_utf8_all x)) (Some i) None) 0 names) (same_bytes a b e)

parental_of-same : (rs : List DraftRelationship) (a b : Name) → encode_utf8_all a ≡ encode_utf8_all b → parental_of rs a ≡ parental_of rs b
unfolding parental_of
parental_of-same rs a b e = ap (λ bytes. first_from (λ k r. cond (is_parental r && bytes_eq bytes (encode_utf8_all r.child)) (Some k) None) 0 rs) e

lookup_of-same : (rs : List DraftRelationship) (a b c e : Name) → encode_utf8_all a ≡ encode_utf8_all b → encode_utf8_all c ≡ encode_utf8_all e → lookup_of rs a c ≡ lookup_of rs b e
unfolding lookup_of
lookup_of-same rs a b c e same_table same_column =
    ap (λ bytes. first_from (λ k r. cond (bytes_eq bytes (encode_utf8_all r.child) && bytes_eq (encode_utf8_all c) (encode_utf8_all r.column)) (Some k) None) 0 rs) same_table
    ∙ ap (λ bytes. first_from (λ k r. cond (bytes_eq (encode_utf8_all b) (encode_utf8_all r.child) && bytes_eq bytes (encode_utf8_all r.column)) (Some k) None) 0 rs) same_column

-- behind a list, and in front of one
slice_get-behind : {X : Type 0} (xs ys : List X) (n : ℕ) → slice_get (xs ++ ys) (length xs + n) ≡ slice_get ys n
slice_get-behind [] ys n = let place : 0 + n ≡ n = omega arith in ap (slice_get ys) place
slice_get-behind (x ∷ xs) ys n =
    let place : length (x ∷ xs) + n ≡ suc (length xs + n) = omega arith in
    ap (slice_get (x ∷ (xs ++ ys))) place ∙ slice_get-behind xs ys n

slice_get-front : {X : Type 0} (xs ys : List X) (n : ℕ) (x : X) → slice_get xs n ≡ Some x → slice_get (xs ++ ys) n ≡ Some x
slice_get-front [] ys n x e = absurd (cc)
slice_get-front (y ∷ xs) ys zero x e = e
slice_get-front (y ∷ xs) ys (suc n) x e = slice_get-front xs ys n x e

-- the first of what an item becomes
flat_map-at : {X A : Type 0} (f : X → List A) (xs : List X) (j : ℕ) (x : X) (y : A) → slice_get xs j ≡ Some x → slice_get (f x) 0 ≡ Some y → slice_get (flat_map f xs) (length (flat_map f (take j xs))) ≡ Some y
flat_map-at f [] j x y e e' = absurd (cc)
flat_map-at f (z ∷ zs) zero x y e e' =
    let same : z ≡ x = cc in
    slice_get-front (f z) (flat_map f zs) 0 y (ap (λ w. slice_get (f w) 0) same ∙ e')
flat_map-at f (z ∷ zs) (suc j) x y e e' =
    ap (slice_get (f z ++ flat_map f zs)) (length-append (f z) (flat_map f (take j zs)))
    ∙ slice_get-behind (f z) (flat_map f zs) (length (flat_map f (take j zs))) ∙ flat_map-at f zs j x y e e'

-- a column becomes as many columns as it has names
length-columns_by : (d : Draft) (table name : Name) (required : Bool) (f : DraftForm) → length (columns_by d table name required f) ≡ length (names_by f name)
length-columns_by d table name required (form.Plain kind) = refl
length-columns_by d table name required form.Lookup = refl
length-columns_by d table name required (form.Rollup rollup) = refl

length-columns_of : (d : Draft) (t : DraftTable) (cs : List DraftColumn) → length (flat_map (columns_of d t) cs) ≡ length (flat_map names_of cs)
unfolding columns_of
length-columns_of d t [] = refl
length-columns_of d t (c ∷ cs) =
    length-append (columns_of d t c) (flat_map (columns_of d t) cs) ∙ ap (λ n. n + length (flat_map (columns_of d t) cs)) (length-columns_by d t.name c.name c.required c.form)
    ∙ ap (λ n. length (names_of c) + n) (length-columns_of d t cs) ∙ sym (length-append (names_of c) (flat_map names_of cs))

-- a lookup column's number, where its name isn't taken
lookup-number : (t : DraftTable) (j : ℕ) (c : DraftColumn) → slice_get t.columns j ≡ Some c → c.form ≡ form.Lookup → takes_name t j c ≡ false → place_of (column_names t) c.name ≡ Some (column_number t j)
unfolding takes_name column_names column_number place_of
lookup-number t j c at is_lookup free =
    let names : names_of c ≡ c.name ∷ [] = ap (λ f. names_by f c.name) is_lookup in
    let none = sym (ap (list_any (stands_before (column_names t) (column_number t j))) names) ∙ free in
    let there = slice_get-behind (system_names t.user_owned) (flat_map names_of t.columns) (length (flat_map names_of (take j t.columns)))
    ∙ flat_map-at names_of t.columns j c c.name at (ap (λ ns. slice_get ns 0) names) in
    first_exact (same_name c.name) (column_names t) (column_number t j) c.name there (same_name-refl c.name) (or-false (stands_before (column_names t) (column_number t j) c.name) false none).0

-- a column's number counts the columns in front of it
column_number-built : (d : Draft) (t : DraftTable) (j : ℕ) → column_number t j ≡ length (system_columns t.user_owned) + length (flat_map (columns_of d t) (take j t.columns))
unfolding column_number
column_number-built d t j = omega (arith, length-map (system_columns t.user_owned) (λ column. column.name), length-columns_of d t (take j t.columns))

-- the lookup column of a number has its relationship's number
lookup-role : (d : Draft) (t : DraftTable) (j k : ℕ) (c : DraftColumn) → slice_get t.columns j ≡ Some c → c.form ≡ form.Lookup → lookup_number d t.name c.name ≡ Some k
    → option_map (λ column. column.role) (slice_get (table_of d t).columns (column_number t j)) ≡ Some (role.Lookup k)
unfolding table_of columns_of
lookup-role d t j k c at is_lookup number =
    let first : Column = record { name = c.name; kind = Ref; required = c.required; role = role.Lookup (number_of (lookup_number d t.name c.name)) } in
    let here : slice_get (columns_of d t c) 0 ≡ Some first = ap (λ f. slice_get (columns_by d t.name c.name c.required f) 0) is_lookup in
    ap (option_map (λ column. column.role))
    (ap (slice_get (system_columns t.user_owned ++ flat_map (columns_of d t) t.columns)) (column_number-built d t j)
    ∙ slice_get-behind (system_columns t.user_owned) (flat_map (columns_of d t) t.columns) (length (flat_map (columns_of d t) (take j t.columns)))
    ∙ flat_map-at (columns_of d t) t.columns j c first at here)
    ∙ ap (λ o. Some (role.Lookup (number_of o))) number

place-hit : (names : List Name) (name : Name) (n : ℕ) → place_of names name ≡ Some n → (x : Name) × ((slice_get names n ≡ Some x) × (same_name name x ≡ true))
unfolding place_of
place-hit names name n e =
    let hit = first-found (same_name name) 0 names n e in
    let place : n ≡ hit.0 = omega (arith, hit.1.1.0) in
    (hit.1.0, (ap (slice_get names) place ∙ hit.1.1.1.0, hit.1.1.1.1))

otherwise-none : {A : Type 0} (b : Bool) (x : A) (o : Option A) → cond b (Some x) o ≡ None → o ≡ None
otherwise-none true x o e = absurd (cc)
otherwise-none false x o e = e

cond-none : (b : Bool) (n : ℕ) → cond b (Some n) None ≡ None → b ≡ false
cond-none true n e = absurd (cc)
cond-none false n e = refl

-- where no name is taken, no column takes one
not-taken : (d : Draft) → name_taken d ≡ None → (n : ℕ) (t : DraftTable) → slice_get d.tables n ≡ Some t → (j : ℕ) (c : DraftColumn) → slice_get t.columns j ≡ Some c → takes_name t j c ≡ false
unfolding name_taken taken_in_tables taken_at_table taken_in
not-taken d e n t there j c there_column =
    let here = first_from-none (taken_at_table d) 0 d.tables (option_or-none (taken_in_tables d) _ e).0 n t there in
    let own = option_map-none _ _ (otherwise-none (stands_before (table_names d.tables) (0 + n) t.name) _ _ here) in
    let place : j ≡ 0 + j = omega arith in
    ap (λ i. takes_name t i c) place ∙ cond-none (takes_name t (0 + j) c) (0 + j) (first_from-none (λ i x. cond (takes_name t i x) (Some i) None) 0 t.columns own j c there_column)

-- a lookup column has its number by the names of its table and itself
lookup-placed : (d : Draft) → name_taken d ≡ None → (i : ℕ) (t : DraftTable) → slice_get d.tables i ≡ Some t → (j : ℕ) (c : DraftColumn) → slice_get t.columns j ≡ Some c → c.form ≡ form.Lookup
    → (table column : Name) → place_of (table_names d.tables) table ≡ Some i → same_name column c.name ≡ true → number_in_table d table column ≡ Some (column_number t j)
unfolding table_named number_in_table
lookup-placed d taken i t there j c at is_lookup table column named same =
    ap (option_and_then (λ x. place_of (column_names x) column)) (ap (option_and_then (slice_get d.tables)) named ∙ there)
    ∙ place_of-same (column_names t) column c.name same ∙ lookup-number t j c at is_lookup (not-taken d taken i t there j c at)

-- the column of a relationship is the child's lookup by it
sound-column : (d : Draft) (k : ℕ) (r : DraftRelationship) → IsResolvedRelationship d k r → name_taken d ≡ None
    → (t : DraftTable) × ((slice_get d.tables (table_number d r.child) ≡ Some t) × (option_map (λ column. column.role) (slice_get (table_of d t).columns (number_of (number_in_table d r.child r.column))) ≡ Some (role.Lookup k)))
unfolding table_named column_named own_column
sound-column d k r resolved taken =
    let n = table_number d r.child in
    let col = option_map-some (λ c. c.form) (column_named d r.child r.column) form.Lookup resolved.lookup in
    let t = option_and_then-some (λ t. own_column t r.column) (table_named d r.child) col.0 col.1.0 in
    let own = option_and_then-some (slice_get t.0.columns) (place_of (own_names t.0) r.column) col.0 t.1.1 in
    let there : slice_get d.tables n ≡ Some t.0 = sym (ap (option_and_then (slice_get d.tables)) resolved.child) ∙ t.1.0 in
    let same_column = place-name (own_names t.0) r.column own.0 col.0.name own.1.0 (at-map (λ c. c.name) t.0.columns own.0 col.0 own.1.1) in
    let same_table = place-name (table_names d.tables) r.child n t.0.name resolved.child (at-map (λ x. x.name) d.tables n t.0 there) in
    let placed = lookup-placed d taken n t.0 there own.0 col.0 own.1.1 col.1.1 r.child r.column resolved.child same_column in
    let back = lookup_of-same d.relationships t.0.name r.child col.0.name r.column (sym (same_bytes r.child t.0.name same_table)) (sym (same_bytes r.column col.0.name same_column)) ∙ resolved.owns in
    (t.0, (there, ap (λ o. option_map (λ column. column.role) (slice_get (table_of d t.0).columns (number_of o))) placed ∙ lookup-role d t.0 own.0 k col.0 own.1.1 col.1.1 back))

-- two parental relationships of one child are one
only-one : (d : Draft) (k j : ℕ) (r s : DraftRelationship) → IsResolvedRelationship d k r → IsResolvedRelationship d j s → is_parental r ≡ true → is_parental s ≡ true
    → table_number d s.child ≡ table_number d r.child → j ≡ k
only-one d k j r s resolved resolved' parental parental' same =
    let hit = place-hit (table_names d.tables) r.child (table_number d r.child) resolved.child in
    let also = place-name (table_names d.tables) s.child (table_number d r.child) hit.0 (resolved'.child ∙ ap Some same) hit.1.0 in
    let bytes = same_bytes s.child hit.0 also ∙ sym (same_bytes r.child hit.0 hit.1.1) in
    same-some (parental_of d.relationships s.child) j k (resolved'.only_parent parental') (parental_of-same d.relationships s.child r.child bytes ∙ resolved.only_parent parental)

count-tables : (d : Draft) (definition : Definition) → IsDefinitionOf d definition → length (tables_of definition) ≡ length d.tables
count-tables d definition meaning = ap length meaning.tables ∙ length-map d.tables (table_of d)

-- a table of the definition stands for one of the text
table-at : (d : Draft) (definition : Definition) → IsDefinitionOf d definition → (i : ℕ) (t : DraftTable) → slice_get d.tables i ≡ Some t → table_at definition i ≡ Some (table_of d t)
table-at d definition meaning i t there = ap (λ ts. slice_get ts i) meaning.tables ∙ at-map (table_of d) d.tables i t there

-- a table has owners where the text says so
owners-of : (d : Draft) (definition : Definition) → IsDefinitionOf d definition → (name : Name) → IsTable d name → has_no_owners d name ≡ false → has_owners definition (table_number d name) ≡ true
unfolding has_no_owners table_named table_of
owners-of d definition meaning name named none =
    let hit = place-hit (table_names d.tables) name (table_number d name) named in
    let t = map-at (λ t. t.name) d.tables (table_number d name) hit.0 hit.1.0 in
    let there : option_and_then (slice_get d.tables) (place_of (table_names d.tables) name) ≡ Some t.0 = ap (option_and_then (slice_get d.tables)) named ∙ t.1.0 in
    let owned = not-false t.0.user_owned (sym (ap (λ o. option_map_or (λ x. not x.user_owned) o false) there) ∙ none) in
    ap (λ o. option_map_or (λ x. x.user_owned) o false) (table-at d definition meaning (table_number d name) t.0 t.1.0) ∙ owned

-- what is handed on between two tables clashes with neither
no-clash : (d : Draft) (r : DraftRelationship) → clashes d r ≡ false → is_parental r ≡ true → (has_no_owners d r.parent ≡ false) × (has_no_owners d r.child ≡ false)
unfolding clashes
no-clash d r none parental = or-false (has_no_owners d r.parent) (has_no_owners d r.child) (and-rest (is_parental r) _ parental none)

-- a relationship of the definition stands for one of the text
relationship-of : (d : Draft) (definition : Definition) → IsDefinitionOf d definition → (k : ℕ) (r : Relationship) → relationship_at definition k ≡ Some r
    → (x : DraftRelationship) × ((slice_get d.relationships k ≡ Some x) × (relationship_of d x ≡ r))
relationship-of d definition meaning k r there = map-at (relationship_of d) d.relationships k r (sym (ap (λ xs. slice_get xs k) meaning.relationships) ∙ there)

sound-built : (d : Draft) (definition : Definition) (steps : ℕ) → IsDefinitionOf d definition → IsResolved d steps → name_taken d ≡ None → (k : ℕ) (r : DraftRelationship) → slice_get d.relationships k ≡ Some r
    → IsSoundRelationship definition k (relationship_of d r)
unfolding relationship_of is_parental
sound-built d definition steps meaning resolved taken k r there =
    let here = resolved.relationships k r there in
    let tables = count-tables d definition meaning in
    let column = sound-column d k r here taken in
    let child = table_number d r.child in
    record {
      parent = omega (arith, place_of-below_items (λ t. t.name) d.tables r.parent (table_number d r.parent) here.parent, tables);
      child = omega (arith, place_of-below_items (λ t. t.name) d.tables r.child (table_number d r.child) here.child, tables);
      column =
          ap (λ o. option_map (λ column. column.role) (option_and_then (λ table. slice_get table.columns (number_of (number_in_table d r.child r.column))) o))
          (table-at d definition meaning child column.0 column.1.0)
          ∙ column.1.1;
      only_parent = λ parental j s there' parental' same.
          let other = relationship-of d definition meaning j s there' in
          only-one d k j r other.0 here (resolved.relationships j other.0 other.1.0) parental (ap is_parental_one other.1.1 ∙ parental') (ap (λ x. x.child) other.1.1 ∙ same);
      owned = λ parental.
          let none = no-clash d r here.has_owners parental in
          (owners-of d definition meaning r.parent here.parent none.0, owners-of d definition meaning r.child here.child none.1);
    }

sound-step : (d : Draft) (definition : Definition) (steps : ℕ) → IsDefinitionOf d definition → IsResolved d steps → (k : ℕ) (g : Registration) → slice_get (steps_of definition) k ≡ Some g → g.table < length (tables_of definition)
unfolding registration_of
sound-step d definition steps meaning resolved k g there =
    let own = map-at (registration_of d) d.steps k g (sym (ap (λ xs. slice_get xs k) meaning.steps) ∙ there) in
    let here = resolved.registrations k own.0 own.1.0 in
    let number : table_number d own.0.table ≡ g.table = ap (λ x. x.table) own.1.1 in
    omega (arith, place_of-below_items (λ t. t.name) d.tables own.0.table (table_number d own.0.table) here.table, number, count-tables d definition meaning)

first-none : {A : Type 0} (b : Bool) (x : A) (o : Option A) → cond b (Some x) o ≡ None → b ≡ false
first-none true x o e = absurd (cc)
first-none false x o e = refl

-- where no name is taken, a table's number is its place
table-number : (d : Draft) → name_taken d ≡ None → (i : ℕ) (t : DraftTable) → slice_get d.tables i ≡ Some t → place_of (table_names d.tables) t.name ≡ Some i
unfolding name_taken taken_in_tables taken_at_table place_of
table-number d e i t there =
    let here = first_from-none (taken_at_table d) 0 d.tables (option_or-none (taken_in_tables d) _ e).0 i t there in
    let place : i ≡ 0 + i = omega arith in
    let free = ap (λ n. stands_before (table_names d.tables) n t.name) place ∙ first-none (stands_before (table_names d.tables) (0 + i) t.name) _ _ here in
    first_exact (same_name t.name) (table_names d.tables) i t.name (at-map (λ x. x.name) d.tables i t there) (same_name-refl t.name) free

-- what holds of each item of a list that begins at a place
unfoldable Every : {A : Type 0} → (ℕ → A → Type 0) → ℕ → List A → Type 0
Every {A} P m xs = (n : ℕ) (x : A) → slice_get xs n ≡ Some x → P (m + n) x

every-nil : {A : Type 0} (P : ℕ → A → Type 0) (m : ℕ) → Every P m []
unfolding Every
every-nil P m n x e = absurd (cc)

every-moved : {A : Type 0} (P : ℕ → A → Type 0) (m n : ℕ) (xs : List A) → m ≡ n → Every P m xs → Every P n xs
every-moved P m n xs e each = subst (λ k. Every P k xs) e each

every-cons : {A : Type 0} (P : ℕ → A → Type 0) (m : ℕ) (x : A) (xs : List A) → P m x → Every P (m + 1) xs → Every P m (x ∷ xs)
unfolding Every
every-cons P m x xs p rest zero z e =
    let same : x ≡ z = cc in
    let place : m ≡ m + 0 = omega arith in
    subst (P (m + 0)) same (subst (λ k. P k x) place p)
every-cons P m x xs p rest (suc n) z e =
    let place : m + 1 + n ≡ m + suc n = omega arith in
    subst (λ k. P k z) place (rest n z e)

every-head : {A : Type 0} (P : ℕ → A → Type 0) (m : ℕ) (x : A) (xs : List A) → Every P m (x ∷ xs) → P m x
unfolding Every
every-head P m x xs each =
    let place : m + 0 ≡ m = omega arith in
    subst (λ k. P k x) place (each zero x refl)

every-tail : {A : Type 0} (P : ℕ → A → Type 0) (m : ℕ) (x : A) (xs : List A) → Every P m (x ∷ xs) → Every P (m + 1) xs
unfolding Every
every-tail P m x xs each n z e =
    let place : m + suc n ≡ m + 1 + n = omega arith in
    subst (λ k. P k z) place (each (suc n) z e)

every-append : {A : Type 0} (P : ℕ → A → Type 0) (m : ℕ) (xs ys : List A) → Every P m xs → Every P (m + length xs) ys → Every P m (xs ++ ys)
every-append P m [] ys first second = every-moved P (m + 0) m ys (omega arith) second
every-append P m (x ∷ xs) ys first second =
    every-cons P m x (xs ++ ys) (every-head P m x xs first) (every-append P (m + 1) xs ys (every-tail P m x xs first) (every-moved P (m + length (x ∷ xs)) (m + 1 + length xs) ys (omega arith) second))

-- where it holds of what each item of a list becomes, it holds of all of it
every-flat_map : {X A : Type 0} (f : X → List A) (P : ℕ → A → Type 0) (m : ℕ) (xs : List X)
    → ((j : ℕ) (x : X) → slice_get xs j ≡ Some x → Every P (m + length (flat_map f (take j xs))) (f x)) → Every P m (flat_map f xs)
every-flat_map f P m [] each = every-nil P m
every-flat_map f P m (x ∷ xs) each =
    every-append P m (f x) (flat_map f xs) (every-moved P (m + length (flat_map f (take 0 (x ∷ xs)))) m (f x) (omega arith) (each zero x refl))
    (every-flat_map f P (m + length (f x)) xs (λ j y e.
    every-moved P (m + length (flat_map f (take (suc j) (x ∷ xs)))) (m + length (f x) + length (flat_map f (take j xs))) (f y) (omega (arith, length-append (f x) (flat_map f (take j xs)))) (each (suc j) y e)))

-- a column of a number in a table refers to what is there
abbrev Refers : Definition → Table → ℕ → ℕ → Column → Type 0
Refers definition table i j column = IsSoundRole definition table i j column column.role

every-kept : (definition : Definition) (table : Table) (i m : ℕ) (name : Name) (kind : Kind) (xs : List Column) → Every (Refers definition table i) (m + 1) xs → Every (Refers definition table i) m (system_column name kind ∷ xs)
every-kept definition table i m name kind xs rest = every-cons (Refers definition table i) m (system_column name kind) xs tt rest

every-last : (definition : Definition) (table : Table) (i m : ℕ) → Every (Refers definition table i) m (system_column (codes "statecode") states ∷ system_column (codes "versionnumber") (Amount 0) ∷ [])
every-last definition table i m = every-kept definition table i m _ _ _ (every-kept definition table i (m + 1) _ _ _ (every-nil (Refers definition table i) (m + 1 + 1)))

every-owner : (definition : Definition) (table : Table) (i m : ℕ) (owned : Bool) → Every (Refers definition table i) m (owner_columns owned)
every-owner definition table i m true = every-kept definition table i m _ _ _ (every-nil (Refers definition table i) (m + 1))
every-owner definition table i m false = every-nil (Refers definition table i) m

-- no system column refers to anything
every-system : (definition : Definition) (table : Table) (i m : ℕ) (owned : Bool) → Every (Refers definition table i) m (system_columns owned)
unfolding system_columns
every-system definition table i m owned =
    every-kept definition table i m _ _ _ (every-kept definition table i _ _ _ _ (every-kept definition table i _ _ _ _ (every-kept definition table i _ _ _ _ (every-kept definition table i _ _ _ _
    (every-append (Refers definition table i) _ (owner_columns owned) _ (every-owner definition table i _ owned) (every-last definition table i _))))))

relationship-at : (d : Draft) (definition : Definition) → IsDefinitionOf d definition → (k : ℕ) (r : DraftRelationship) → slice_get d.relationships k ≡ Some r → relationship_at definition k ≡ Some (relationship_of d r)
relationship-at d definition meaning k r there = ap (λ xs. slice_get xs k) meaning.relationships ∙ at-map (relationship_of d) d.relationships k r there

-- a lookup's relationship has the lookup's table as its child, and the lookup as its column
lookup-named : (d : Draft) (definition : Definition) → IsDefinitionOf d definition → name_taken d ≡ None → (i : ℕ) (t : DraftTable) → slice_get d.tables i ≡ Some t
    → (j : ℕ) (c : DraftColumn) → slice_get t.columns j ≡ Some c → c.form ≡ form.Lookup → IsFound (lookup_number d t.name c.name)
    → option_map {U = ℕ × ℕ} (λ r. (r.child, r.column)) (relationship_at definition (number_of (lookup_number d t.name c.name))) ≡ Some (i, column_number t j)
unfolding lookup_of relationship_of
lookup-named d definition meaning taken i t there j c at is_lookup is_found =
    let k = number_of (lookup_number d t.name c.name) in
    let hit = first-found (has_lookup t.name c.name) 0 d.relationships k is_found in
    let place : k ≡ hit.0 = omega (arith, hit.1.1.0) in
    let at_k : slice_get d.relationships k ≡ Some hit.1.0 = ap (slice_get d.relationships) place ∙ hit.1.1.1.0 in
    let same = and-true (same_name t.name hit.1.0.child) (same_name c.name hit.1.0.column) hit.1.1.1.1 in
    let child : place_of (table_names d.tables) hit.1.0.child ≡ Some i = sym (place_of-same (table_names d.tables) t.name hit.1.0.child same.0) ∙ table-number d taken i t there in
    let column = lookup-placed d taken i t there j c at is_lookup hit.1.0.child hit.1.0.column child (same_name-sym c.name hit.1.0.column true same.1) in
    ap (option_map {U = ℕ × ℕ} (λ r. (r.child, r.column))) (relationship-at d definition meaning k hit.1.0 at_k)
    ∙ ap (λ o. Some (number_of o, number_of (number_in_table d hit.1.0.child hit.1.0.column))) child ∙ ap (λ o. Some (i, number_of o)) column

length-system : (owned : Bool) → length (system_names owned) ≡ system_count owned
unfolding system_columns
length-system true = refl
length-system false = refl

lookup-refers : (d : Draft) (definition : Definition) → IsDefinitionOf d definition → name_taken d ≡ None → (i : ℕ) (t : DraftTable) → slice_get d.tables i ≡ Some t
    → (j : ℕ) (c : DraftColumn) → slice_get t.columns j ≡ Some c → c.form ≡ form.Lookup → IsFound (lookup_number d t.name c.name)
    → (column : Column) → column.kind ≡ Ref → IsSoundLookup definition (table_of d t) i (column_number t j) column (number_of (lookup_number d t.name c.name))
unfolding table_of column_number
lookup-refers d definition meaning taken i t there j c at is_lookup is_found column kind = record {
  kind = kind;
  behind = omega (arith, length-system t.user_owned);
  named = lookup-named d definition meaning taken i t there j c at is_lookup is_found;
}

rollup-refers : (d : Draft) (definition : Definition) → IsDefinitionOf d definition → name_taken d ≡ None → (i : ℕ) (t : DraftTable) → slice_get d.tables i ≡ Some t
    → (c : DraftColumn) (rollup : DraftRollup) → IsCalculable d t c rollup → option_map (λ r. r.parent) (relationship_at definition (rollup_of d rollup).over) ≡ Some i
unfolding goes_over relationship_named relationship_of rollup_of
rollup-refers d definition meaning taken i t there c rollup calculable =
    let k = number_of (place_of (relationship_names d.relationships) rollup.over) in
    let over = map_or-true (λ r. same_name r.parent t.name) (relationship_named d rollup.over) calculable.parent in
    let at_k : slice_get d.relationships k ≡ Some over.0 = sym (ap (option_and_then (slice_get d.relationships)) calculable.over) ∙ over.1.0 in
    let number : place_of (table_names d.tables) over.0.parent ≡ Some i = place_of-same (table_names d.tables) over.0.parent t.name over.1.1 ∙ table-number d taken i t there in
    ap (option_map (λ r. r.parent)) (relationship-at d definition meaning k over.0 at_k) ∙ ap (λ o. Some (number_of o)) number

-- each of the columns that a column of the text becomes refers to what is there
every-column_by : (d : Draft) (definition : Definition) → IsDefinitionOf d definition → name_taken d ≡ None → (i : ℕ) (t : DraftTable) → slice_get d.tables i ≡ Some t
    → (j : ℕ) (c : DraftColumn) → slice_get t.columns j ≡ Some c → (f : DraftForm) → c.form ≡ f → IsResolvedForm d t c f
    → Every (Refers definition (table_of d t) i) (column_number t j) (columns_by d t.name c.name c.required f)
every-column_by d definition meaning taken i t there j c at (form.Plain kind) is resolved =
    let P = Refers definition (table_of d t) i in
    let x : Column = record { name = c.name; kind = kind; required = c.required; role = role.Plain } in
    every-cons P (column_number t j) x [] tt (every-nil P (column_number t j + 1))
every-column_by d definition meaning taken i t there j c at form.Lookup is resolved =
    let P = Refers definition (table_of d t) i in
    let x : Column = record { name = c.name; kind = Ref; required = c.required; role = role.Lookup (number_of (lookup_number d t.name c.name)) } in
    every-cons P (column_number t j) x [] (lookup-refers d definition meaning taken i t there j c at is resolved x refl) (every-nil P (column_number t j + 1))
every-column_by d definition meaning taken i t there j c at (form.Rollup rollup) is resolved =
    let P = Refers definition (table_of d t) i in
    let n = column_number t j in
    let date = every-cons P (n + 1 + 1) (companion (date_name c.name) Moment) [] tt (every-nil P (n + 1 + 1 + 1)) in
    let state = every-cons P (n + 1) (companion (state_name c.name) any_whole) (companion (date_name c.name) Moment ∷ []) tt date in
    every-cons P n (rollup_column d c.name c.required rollup) (companion (state_name c.name) any_whole ∷ companion (date_name c.name) Moment ∷ []) (rollup-refers d definition meaning taken i t there c rollup resolved) state

every-column : (d : Draft) (definition : Definition) (steps : ℕ) → IsDefinitionOf d definition → IsResolved d steps → name_taken d ≡ None → (i : ℕ) (t : DraftTable) → slice_get d.tables i ≡ Some t
    → Every (Refers definition (table_of d t) i) 0 (table_of d t).columns
unfolding table_of columns_of
every-column d definition steps meaning resolved taken i t there =
    let P = Refers definition (table_of d t) i in
    every-append P 0 (system_columns t.user_owned) (flat_map (columns_of d t) t.columns) (every-system definition (table_of d t) i 0 t.user_owned)
    (every-flat_map (columns_of d t) P (0 + length (system_columns t.user_owned)) t.columns (λ j c at.
    every-moved P (column_number t j) (0 + length (system_columns t.user_owned) + length (flat_map (columns_of d t) (take j t.columns))) (columns_of d t c) (omega (arith, column_number-built d t j))
    (every-column_by d definition meaning taken i t there j c at c.form refl (resolved.columns i t there j c at))))

sound-columns : (d : Draft) (definition : Definition) (steps : ℕ) → IsDefinitionOf d definition → IsResolved d steps → name_taken d ≡ None → (i : ℕ) (table : Table) → slice_get (tables_of definition) i ≡ Some table
    → Every (Refers definition table i) 0 table.columns
sound-columns d definition steps meaning resolved taken i table there =
    let own = map-at (table_of d) d.tables i table (sym (ap (λ xs. slice_get xs i) meaning.tables) ∙ there) in
    let P : Table → Type 0 = λ x. Every (Refers definition x i) 0 x.columns in
    subst P own.1.1 (every-column d definition steps meaning resolved taken i own.0 own.1.0)

pub sound_resolved : (d : Draft) (definition : Definition) (steps : ℕ) → IsWithinLimits d → IsDefinitionOf d definition → IsResolved d steps → name_taken d ≡ None → IsSound definition
unfolding Every
sound_resolved d definition steps limits meaning resolved taken = record {
  few = omega (arith, limits.relationships, ap length meaning.relationships, length-map d.relationships (relationship_of d));
  columns = λ i table there j column at.
      let place : 0 + j ≡ j = omega arith in
      let P : ℕ → Type 0 = λ n. Refers definition table i n column in
      subst P place (sound-columns d definition steps meaning resolved taken i table there j column at);
  relationships = λ k r there.
      let own = relationship-of d definition meaning k r there in
      let P : Relationship → Type 0 = IsSoundRelationship definition k in
      subst P own.1.1 (sound-built d definition steps meaning resolved taken k own.0 own.1.0);
  steps = sound-step d definition steps meaning resolved;
}
