-- What a text without a fault names is there.
use Rattle.std.proofs.Common.{◌≡◌, ℕ, ◌<◌, Bool, true, false, ltb, List, [], ◌∷◌, ◌++◌, map, flat_map, Some, is_some, refl, sym, ap, ◌∙◌, arith, slice_get, true≢false}
use Rattle.std.specs.Prelude.{◌||◌, ◌&&◌, not, option_map, option_and_then, is_none, encode_utf8_all}
use Rattle.std.specs.List.{list_any}
use Rattle.std.specs.Option.{option_map_or}
use Rattle.std.proofs.lemmas.Slice.Eq.{bytes_eq-Decides}
use Rattle.std.proofs.lemmas.Bool.Decides.{nat_tests}
use Rattle.dv_schema.specs.declared.draft.Draft.{Draft}
use Rattle.dv_schema.specs.declared.draft.DraftColumn.{DraftColumn}
use Rattle.dv_schema.specs.declared.draft.DraftForm.{DraftForm}
use Rattle.dv_schema.specs.declared.draft.DraftForm.TheVariants.{Plain, Lookup, Rollup}
use Rattle.dv_schema.specs.declared.draft.DraftRegistration.{DraftRegistration}
use Rattle.dv_schema.specs.declared.draft.DraftRelationship.{DraftRelationship}
use Rattle.dv_schema.specs.declared.draft.DraftRollup.{DraftRollup}
use Rattle.dv_schema.specs.declared.draft.DraftTable.{DraftTable}
use Rattle.dv_schema.specs.declared.opening.Entry.{Entry}
use Rattle.dv_schema.specs.Names.{Name, place_of, same_name}
use Rattle.dv_meta.specs.Accepted.{number_in_table, source_number}
use Rattle.dv_meta.specs.Columns.{column_names, own_names, names_by, names_of, system_names}
use Rattle.dv_meta.specs.NameTaken.{takes_column}
use Rattle.dv_meta.specs.Named.{table_names, relationship_names, table_named, relationship_named, column_named, own_column, lookup_of, has_lookup, lookup_number}
use Rattle.dv_meta.specs.Relations.{empties_required, clashes, is_second, is_parental, parental_of}
use Rattle.dv_meta.specs.Resolved.{IsFound, IsTable, IsResolvedRelationship, IsCalculable, IsResolvedForm, IsResolvedColumn, IsResolvedRegistration, IsResolvedEntry}
use Rattle.dv_meta.specs.Rollups.{rollup_bad, goes_over, source_suits, form_bad}
use Rattle.dv_meta.specs.Steps.{step_unknown}
use Rattle.dv_meta.specs.UnknownName.{column_unknown, form_unknown, relationship_unknown, names_lookup, is_lookup, rollup_unknown, of_unknown, source_of, registration_unknown, registration_unknown_on, given_unknown, names_unknown, privilege_unknown}
use Rattle.dv_meta.proofs.FoundLaws.{or-false, and-true, and-rest, not-false, and_then-some, map_or-true, map_or-false, found, some_is, first_exact, first_any, list_any-append, or-first, or-second}

-- a name is among names where one of them is it
among : (names : List Name) (name : Name) → is_some (place_of names name) ≡ list_any (same_name name) names
unfolding place_of
among names name = first_any (same_name name) 0 names

own_name_first : (name : Name) (form : DraftForm) (own : Name) → same_name name own ≡ true → list_any (same_name name) (names_by form own) ≡ true
own_name_first name (Plain kind) own e = or-first (same_name name own) _ e
own_name_first name Lookup own e = or-first (same_name name own) _ e
own_name_first name (Rollup rollup) own e = or-first (same_name name own) _ e

own_among_step : (name : Name) (c : DraftColumn) (own all : Bool) (b : Bool) → same_name name c.name ≡ b → (b || own) ≡ true → (own ≡ true → all ≡ true)
    → (list_any (same_name name) (names_of c) || all) ≡ true
own_among_step name c own all true here e more = or-first (list_any (same_name name) (names_of c)) all (own_name_first name c.form c.name here)
own_among_step name c own all false here e more = or-second (list_any (same_name name) (names_of c)) all (more e)

-- a table's own name is among those of all its columns
own_among : (name : Name) (columns : List DraftColumn) → list_any (same_name name) (map (λ column. column.name) columns) ≡ true → list_any (same_name name) (flat_map names_of columns) ≡ true
own_among name [] e = e
own_among name (c ∷ cs) e =
    list_any-append (same_name name) (names_of c) (flat_map names_of cs)
    ∙ own_among_step name c (list_any (same_name name) (map (λ column. column.name) cs)) (list_any (same_name name) (flat_map names_of cs)) (same_name name c.name) refl e (λ f. own_among name cs f)

-- a table's own column has a number
own_column-number : (t : DraftTable) (name : Name) → is_some (own_column t name) ≡ true → is_some (place_of (column_names t) name) ≡ true
unfolding own_column column_names
own_column-number t name e =
    let place = and_then-some (slice_get t.columns) (place_of (own_names t) name) e in
    let own = sym (among (own_names t) name) ∙ some_is (place_of (own_names t) name) place.0 place.1.0 in
    among (system_names t.user_owned ++ flat_map names_of t.columns) name
    ∙ list_any-append (same_name name) (system_names t.user_owned) (flat_map names_of t.columns)
    ∙ or-second (list_any (same_name name) (system_names t.user_owned)) (list_any (same_name name) (flat_map names_of t.columns)) (own_among name t.columns own)

column-found : (d : Draft) (table name : Name) → is_some (column_named d table name) ≡ true → IsFound (number_in_table d table name)
unfolding column_named number_in_table
column-found d table name e =
    let t = and_then-some (λ t. own_column t name) (table_named d table) e in
    found (option_and_then (λ t. place_of (column_names t) name) (table_named d table)) (ap (λ o. is_some (option_and_then (λ t. place_of (column_names t) name) o)) t.1.0 ∙ own_column-number t.0 name t.1.1)

table-found : (d : Draft) (name : Name) → is_some (table_named d name) ≡ true → IsTable d name
unfolding table_named
table-found d name e =
    let place = and_then-some (slice_get d.tables) (place_of (table_names d.tables) name) e in
    found (place_of (table_names d.tables) name) (some_is (place_of (table_names d.tables) name) place.0 place.1.0)

child-found : (d : Draft) (table name : Name) → is_some (column_named d table name) ≡ true → IsTable d table
unfolding column_named
child-found d table name e =
    let t = and_then-some (λ t. own_column t name) (table_named d table) e in
    table-found d table (some_is (table_named d table) t.0 t.1.0)

lookup-form : (form : DraftForm) → is_lookup form ≡ true → form ≡ Lookup
lookup-form (Plain kind) e = absurd (true≢false (sym e))
lookup-form Lookup e = refl
lookup-form (Rollup rollup) e = absurd (true≢false (sym e))

pub same_name-refl : (a : Name) → same_name a a ≡ true
same_name-refl a = (bytes_eq-Decides (encode_utf8_all a) (encode_utf8_all a)).1 refl

both-true : (a b : Bool) → a ≡ true → b ≡ true → (a && b) ≡ true
both-true true b e f = f
both-true false b e f = e

-- a lookup that no earlier relationship has is this one's
owns-lookup : (d : Draft) (k : ℕ) (r : DraftRelationship) → slice_get d.relationships k ≡ Some r → takes_column d (k, r) ≡ false → lookup_number d r.child r.column ≡ Some k
unfolding takes_column lookup_of
owns-lookup d k r at taken =
    first_exact (has_lookup r.child r.column) d.relationships k r at (both-true (same_name r.child r.child) (same_name r.column r.column) (same_name-refl r.child) (same_name-refl r.column)) (or-false _ _ taken).1

-- a parental relationship before which no other has its child is the only one
only-parent : (d : Draft) (k : ℕ) (r : DraftRelationship) → slice_get d.relationships k ≡ Some r → is_second d (k, r) ≡ false → is_parental r ≡ true → parental_of d.relationships r.child ≡ Some k
unfolding is_second parental_of
only-parent d k r at second parental =
    first_exact (λ x. is_parental x && same_name r.child x.child) d.relationships k r at (both-true (is_parental r) (same_name r.child r.child) parental (same_name-refl r.child))
    (and-rest (is_parental r) _ parental second)

pub resolved-relationship : (d : Draft) (k : ℕ) (r : DraftRelationship) → slice_get d.relationships k ≡ Some r → takes_column d (k, r) ≡ false → relationship_unknown d r ≡ false
    → empties_required d r ≡ false → clashes d r ≡ false → is_second d (k, r) ≡ false → IsResolvedRelationship d k r
unfolding relationship_unknown names_lookup
resolved-relationship d k r at taken unknown empties clash second =
    let names = or-false (is_none (table_named d r.parent)) (not (names_lookup d r)) unknown in
    let lookup = map_or-true (λ column. is_lookup column.form) (column_named d r.child r.column) (not-false (names_lookup d r) names.1) in
    let there = some_is (column_named d r.child r.column) lookup.0 lookup.1.0 in
    record {
      parent = table-found d r.parent (not-false (is_some (table_named d r.parent)) names.0);
      child = child-found d r.child r.column there;
      column = column-found d r.child r.column there;
      lookup = ap (option_map (λ column. column.form)) lookup.1.0 ∙ ap Some (lookup-form lookup.0.form lookup.1.1);
      owns = owns-lookup d k r at taken;
      only_parent = λ parental. only-parent d k r at second parental;
      has_owners = clash;
      leaves_required = empties;
    }

over-found : (d : Draft) (rollup : DraftRollup) → is_some (source_of d rollup) ≡ true → IsFound (place_of (relationship_names d.relationships) rollup.over)
unfolding source_of relationship_named
over-found d rollup e =
    let r = and_then-some (λ r. table_named d r.child) (relationship_named d rollup.over) e in
    let place = and_then-some (slice_get d.relationships) (place_of (relationship_names d.relationships) rollup.over) (some_is (relationship_named d rollup.over) r.0 r.1.0) in
    found (place_of (relationship_names d.relationships) rollup.over) (some_is (place_of (relationship_names d.relationships) rollup.over) place.0 place.1.0)

of-found : (d : Draft) (rollup : DraftRollup) (name : Name) (t : DraftTable) → rollup.of ≡ Some name → source_of d rollup ≡ Some t → of_unknown rollup.of t ≡ false → IsFound (source_number d rollup)
unfolding source_number
of-found d rollup name t given source known =
    let named = not-false (is_some (place_of (column_names t) name)) (sym (ap (λ o. of_unknown o t) given) ∙ known) in
    found (source_number d rollup)
    (ap (λ o. is_some (option_and_then (λ n. option_and_then (λ u. place_of (column_names u) n) (source_of d rollup)) o)) given
    ∙ ap (λ o. is_some (option_and_then (λ u. place_of (column_names u) name) o)) source ∙ named)

calculable : (d : Draft) (t : DraftTable) (c : DraftColumn) (rollup : DraftRollup) → rollup_unknown d rollup ≡ false → form_bad d t.name c.required (Rollup rollup) ≡ false → IsCalculable d t c rollup
unfolding rollup_unknown
calculable d t c rollup unknown bad =
    let parts = or-false c.required (not (goes_over d t.name rollup && source_suits d rollup)) bad in
    let suits = and-true (goes_over d t.name rollup) (source_suits d rollup) (not-false (goes_over d t.name rollup && source_suits d rollup) parts.1) in
    let source = map_or-false (of_unknown rollup.of) (source_of d rollup) unknown in
    let there = some_is (source_of d rollup) source.0 source.1.0 in
    record {
      over = over-found d rollup there;
      parent = suits.0;
      child = there;
      of = λ name given. of-found d rollup name source.0 given source.1.0 source.1.1;
      suits = suits.1;
      optional = parts.0;
    }

resolved-form : (d : Draft) (t : DraftTable) (c : DraftColumn) (form : DraftForm) → form_unknown d t.name c.name form ≡ false → form_bad d t.name c.required form ≡ false → IsResolvedForm d t c form
resolved-form d t c (Plain kind) unknown bad = tt
resolved-form d t c Lookup unknown bad = found (lookup_number d t.name c.name) (not-false (is_some (lookup_number d t.name c.name)) unknown)
resolved-form d t c (Rollup rollup) unknown bad = calculable d t c rollup unknown bad

pub resolved-column : (d : Draft) (t : DraftTable) (c : DraftColumn) → column_unknown d t c ≡ false → rollup_bad d t c ≡ false → IsResolvedColumn d t c
unfolding column_unknown rollup_bad
resolved-column d t c unknown bad = resolved-form d t c c.form unknown bad

step-below : (n m : ℕ) → not (ltb n m) ≡ false → n < m
step-below n m e = let below = not-false (ltb n m) e in grind (arith, nat_tests)

pub resolved-registration : (d : Draft) (steps : ℕ) (g : DraftRegistration) → registration_unknown d g ≡ false → step_unknown steps g ≡ false → IsResolvedRegistration d steps g
unfolding registration_unknown registration_unknown_on
resolved-registration d steps g unknown step =
    let t = map_or-false (registration_unknown_on g) (table_named d g.table) unknown in
    let on : (u : DraftTable) → table_named d g.table ≡ Some u → registration_unknown_on g u ≡ false = λ u at. sym (ap (λ o. option_map_or (registration_unknown_on g) o true) at) ∙ unknown in
    let images : (u : DraftTable) → table_named d g.table ≡ Some u → (names_unknown u g.pre || names_unknown u g.post) ≡ false = λ u at. (or-false (given_unknown u g.columns) (names_unknown u g.pre || names_unknown u g.post) (on u at)).1 in
    record {
      step = step-below g.step steps step;
      table = table-found d g.table (some_is (table_named d g.table) t.0 t.1.0);
      columns = λ u at. (or-false (given_unknown u g.columns) (names_unknown u g.pre || names_unknown u g.post) (on u at)).0;
      pre = λ u at. (or-false (names_unknown u g.pre) (names_unknown u g.post) (images u at)).0;
      post = λ u at. (or-false (names_unknown u g.pre) (names_unknown u g.post) (images u at)).1;
    }

pub resolved-entry : (d : Draft) (entry : Entry) → privilege_unknown d entry.table ≡ false → IsResolvedEntry d entry
resolved-entry d entry e name given = table-found d name (not-false (is_some (table_named d name)) (sym (ap (privilege_unknown d) given) ∙ e))
