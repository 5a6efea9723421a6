-- A row whose values were set: its lookups name rows that are there, and no row is above itself.
use Rattle.std.proofs.Common.{◌≡◌, ◌⊎◌, ◌≤◌, ◌+◌, ◌-◌, refl, sym, ap, subst, ◌∙◌, ℕ, zero, suc, Bool, true, false, cond, List, [], ◌∷◌, ◌++◌, inl, inr, is_some, arith}
use Rattle.std.proofs.lemmas.Bool.{true≢false, eqb-true, eq-eqb, lt-ltb, ltb-true, ltb-false}
use Rattle.std.proofs.lemmas.Option.{none-some}
use Rattle.std.specs.Prelude.{nat_lt, pos, Option, None, Some, Result, option_map, slice_get}
use Rattle.std.specs.Option.{option_and_then}
use Rattle.std.specs.FinMap as map
use Rattle.dv_value.specs.declared.id.Id.{Id}
use Rattle.dv_value.specs.declared.raw.Raw.{Raw}
use Rattle.dv_value.specs.declared.value.Value.{Value}
use Rattle.dv_value.specs.declared.value.Value.TheVariants as value
use Rattle.dv_value.specs.Raws.{value_of}
use Rattle.dv_schema.specs.declared.definition.Definition.{Definition}
use Rattle.dv_schema.specs.declared.relationship.Relationship.{Relationship}
use Rattle.dv_schema.specs.declared.table.Column.{Column}
use Rattle.dv_schema.specs.declared.table.ColumnRole.{ColumnRole}
use Rattle.dv_schema.specs.declared.table.ColumnRole.TheVariants.{Lookup}
use Rattle.dv_schema.specs.declared.table.Table.{Table}
use Rattle.dv_schema.specs.Definitions.{relationships_of, tables_of}
use Rattle.dv_schema.specs.Sound.{relationship_at, system_count, IsSoundRole}
use Rattle.dv_store.specs.declared.keys.RowKey.{RowKey}
use Rattle.dv_store.specs.declared.row.Row.{Row}
use Rattle.dv_store.specs.Keys.{is_row, row_key}
use Rattle.dv_store.specs.Rolled.{version_place, with_value}
use Rattle.dv_store.specs.Shapes.{is_owned, place_of}
use Rattle.dv_store.specs.World.{World, is_id, is_there, named_at, named_by, named_in, row_put}
use Rattle.dv_cascade.specs.Circles.{parent_of, IsNotUnder, IsUnderParent}
use Rattle.dv_cascade.specs.Sound.{HasSoundLinks, IsSoundWorld}
use Rattle.dv_cascade.proofs.Among.{row_is, row_total}
use Rattle.dv_cascade.proofs.Relinked.{new_parents}
use Rattle.dv_cascade.proofs.Sounding.{sound_alike}
use Rattle.dv_shares.specs.Outcome.{LimitSays}
use Rattle.dv_message.specs.declared.lookups.Naming.{Naming}
use Rattle.dv_message.specs.declared.stop.Stop.{Stop}
use Rattle.dv_message.specs.Checked.{AllPass, Answers}
use Rattle.dv_message.specs.Columns.{given_by}
use Rattle.dv_message.specs.Lookups.{NamedSays}
use Rattle.dv_message.specs.Versions.{next_version}
use Rattle.dv_message.proofs.NamingLaws.{given_is_named, named_is_there, passes, IsIn}
use Rattle.dv_write.specs.declared.change.Change.{Change}
use Rattle.dv_write.specs.declared.change.Edit.TheVariants.{Set}
use Rattle.dv_write.specs.declared.change.Placed.{Placed}
use Rattle.dv_write.specs.declared.updating.UpdateCheck.TheVariants as check
use Rattle.dv_write.specs.Closures.{key_of}
use Rattle.dv_write.specs.Effects.{applied, carrying, edited, first_limit, row_changed, touched, with_values, LimitThen}
use Rattle.dv_write.specs.Moving.{Settles}
use Rattle.dv_write.specs.Updating.{named_rows, placed_from, placed_in, update_changes, update_checks, update_values, updated, CircleSays, LookupSays, OfRelationship, UpdateLimit, UpdateSays, Updating}
use Rattle.dv_write.proofs.Shapes.{applied_shape}

-- a value names an id where it is that reference
is_reference : (v : Value) (id : Id) → named_by (Some v) ≡ Some id → v ≡ value.Ref id
is_reference (value.Ref other) id h = ap value.Ref (same other id h)
  where
    same : (a b : Id) → Some a ≡ Some b → a ≡ b
    same a b e = cc
is_reference value.Empty id h = absurd (none-some id h)
is_reference (value.Flag flag) id h = absurd (none-some id h)
is_reference (value.Whole number) id h = absurd (none-some id h)
is_reference (value.Choice number) id h = absurd (none-some id h)
is_reference (value.Amount amount) id h = absurd (none-some id h)
is_reference (value.Moment moment) id h = absurd (none-some id h)
is_reference (value.Text text) id h = absurd (none-some id h)

-- what a place names once a value was put: that value, or what it named before
value_names : (vs : List Value) (i p : ℕ) (v : Value) (id : Id) → named_by (slice_get (with_value vs i v) p) ≡ Some id → ((i ≡ p) × (v ≡ value.Ref id)) ⊎ (named_by (slice_get vs p) ≡ Some id)
value_names [] i p v id h = inr h
value_names (x ∷ vs) zero zero v id h = inl (refl, is_reference v id h)
value_names (x ∷ vs) zero (suc p) v id h = inr h
value_names (x ∷ vs) (suc i) zero v id h = inr h
value_names (x ∷ vs) (suc i) (suc p) v id h = on (value_names vs i p v id h)
  where
    on : ((i ≡ p) × (v ≡ value.Ref id)) ⊎ (named_by (slice_get vs p) ≡ Some id) → ((suc i ≡ suc p) × (v ≡ value.Ref id)) ⊎ (named_by (slice_get vs p) ≡ Some id)
    on (inl (place, is)) = inl (ap suc place, is)
    on (inr old) = inr old

-- a value is put at a place that names an id
abbrev Names : List Placed → ℕ → Id → Type 0
Names placed p id = (one : Placed) × IsIn one placed × (one.place ≡ p) × (one.value ≡ value.Ref id)

-- the same of several values
values_name : (vs : List Value) (placed : List Placed) (p : ℕ) (id : Id) → named_by (slice_get (with_values vs placed) p) ≡ Some id → Names placed p id ⊎ (named_by (slice_get vs p) ≡ Some id)
unfolding with_values IsIn
values_name vs [] p id h = inr h
values_name vs (one ∷ placed) p id h = on (values_name (with_value vs one.place one.value) placed p id h)
  where
    first : ((one.place ≡ p) × (one.value ≡ value.Ref id)) ⊎ (named_by (slice_get vs p) ≡ Some id) → Names (one ∷ placed) p id ⊎ (named_by (slice_get vs p) ≡ Some id)
    first (inl (place, is)) = inl (one, inl refl, place, is)
    first (inr old) = inr old

    on : Names placed p id ⊎ (named_by (slice_get (with_value vs one.place one.value) p) ≡ Some id) → Names (one ∷ placed) p id ⊎ (named_by (slice_get vs p) ≡ Some id)
    on (inl (other, among, place, is)) = inl (other, inr among, place, is)
    on (inr h) = first (value_names vs one.place p one.value id h)

-- an item of two lists together is in one of them
in_either : {A : Type 0} (x : A) (xs ys : List A) → IsIn x (xs ++ ys) → IsIn x xs ⊎ IsIn x ys
unfolding IsIn
in_either x [] ys i = inr i
in_either x (z ∷ xs) ys (inl e) = inl (inl e)
in_either x (z ∷ xs) ys (inr i) = on (in_either x xs ys i)
  where
    on : IsIn x xs ⊎ IsIn x ys → IsIn x (z ∷ xs) ⊎ IsIn x ys
    on (inl j) = inl (inr j)
    on (inr j) = inr j

-- a value is given for a column, and put at the column's place
record IsGiven (n : ℕ) (values : List (List ℕ × Raw)) (columns : List Column) (one : Placed) : Type 0 where
  number : ℕ
  column : Column
  raw : Raw
  there : slice_get columns number ≡ Some column
  given : value_of column.name values ≡ Some raw
  place : one.place ≡ place_of (n + number)
  value : one.value ≡ given_by column.kind (Some raw)

placed_given : (n : ℕ) (values : List (List ℕ × Raw)) (columns : List Column) (one : Placed) → IsIn one (placed_from n values columns) → IsGiven n values columns one
unfolding placed_from IsIn
placed_given n values [] one among = absurd among
placed_given n values (column ∷ columns) one among = on (in_either one (placed_in n column (value_of column.name values)) (placed_from (n + 1) values columns) among) (placed_given (n + 1) values columns one)
  where
    none : (n : ℕ) → n ≡ n + 0
    none n = omega arith

    more : (n k : ℕ) → n + 1 + k ≡ n + suc k
    more n k = omega arith

    first : (raw : Option Raw) → value_of column.name values ≡ raw → IsIn one (placed_in n column raw) → IsGiven n values (column ∷ columns) one
    first None e i = absurd i
    first (Some raw) e (inl same) = record {
      number = 0;
      column = column;
      raw = raw;
      there = refl;
      given = e;
      place = ap (λ (o : Placed). o.place) same ∙ ap place_of (none n);
      value = ap (λ (o : Placed). o.value) same;
    }
    first (Some raw) e (inr i) = absurd i

    later : IsGiven (n + 1) values columns one → IsGiven n values (column ∷ columns) one
    later g = record { number = suc g.number; column = g.column; raw = g.raw; there = g.there; given = g.given; place = g.place ∙ ap place_of (more n g.number); value = g.value }

    on : IsIn one (placed_in n column (value_of column.name values)) ⊎ IsIn one (placed_from (n + 1) values columns)
        → (IsIn one (placed_from (n + 1) values columns) → IsGiven (n + 1) values columns one) → IsGiven n values (column ∷ columns) one
    on (inl i) rest = first (value_of column.name values) refl i
    on (inr i) rest = later (rest i)

-- a column behind those of the service has a place of its own
place_behind : (j : ℕ) → 7 ≤ j → place_of j ≡ j - 1
place_behind j behind = ap (λ b. cond b (j - 1) j) (lt-ltb 2 j (omega (arith, behind)))

place_apart : (i j : ℕ) → 7 ≤ j → place_of i ≡ place_of j → i ≡ j
place_apart i j behind e = of (nat_lt 2 i) refl (e ∙ place_behind j behind)
  where
    of : (b : Bool) → nat_lt 2 i ≡ b → cond b (i - 1) i ≡ j - 1 → i ≡ j
    of true lt h = let more = ltb-true 2 i lt in omega (arith, behind, more, h)
    of false lt h = let few = ltb-false 2 i lt in absurd (omega (arith, behind, few, h))

place_above : (n j : ℕ) → 7 ≤ j → n ≤ 3 → n ≡ place_of j → ⊥
place_above n j behind low e = let h = e ∙ place_behind j behind in omega (arith, behind, low, h)

behind_system : (owned : Bool) (j : ℕ) → system_count owned ≤ j → 7 ≤ j
behind_system true j le = omega (arith, le)
behind_system false j le = le

same_column : (a b : Column) → Some a ≡ Some b → a ≡ b
same_column a b e = cc

id_named : (id : Id) (named : Option Id) → is_id id named ≡ true → named ≡ Some id
id_named id None e = absurd (true≢false (sym e))
id_named id (Some other) e = let p = eqb-true id.0 other.0 e in λ j. Some (record { 0 = sym p j })

names_it : (id : Id) (named : Option Id) → named ≡ Some id → is_id id named ≡ true
names_it id named e = ap (is_id id) e ∙ eq-eqb id.0 id.0 refl

module _ (u : Updating) (sound : IsSoundWorld u.target.setting.definition u.target.world) (table : slice_get (tables_of u.target.setting.definition) u.target.number ≡ Some u.target.table)
    (passed : AllPass (UpdateSays u) update_checks) where
  abbrev d : Definition
  d = u.target.setting.definition

  abbrev w : World
  w = u.target.world

  abbrev key : RowKey
  key = key_of u.target

  -- the row that a lookup of a number names, as a message gives it
  abbrev naming : ℕ → Relationship → Id → Naming
  naming k r id = record { relationship = k; parent = row_key r.parent id }

  all_there : NamedSays u.target (named_rows u) None
  unfolding UpdateSays IsIn
  all_there = passes (UpdateSays u) update_checks passed check.Named (inr (inr (inr (inr (inr (inr (inl refl)))))))

  no_circles : CircleSays w d key (named_rows u) None
  unfolding UpdateSays IsIn
  no_circles = passes (UpdateSays u) update_checks passed check.Circle (inr (inr (inr (inr (inr (inr (inr (inl refl))))))))

  -- the column of a lookup of the row
  record IsLookup (k : ℕ) (r : Relationship) : Type 0 where
    column : Column
    there : slice_get u.target.table.columns r.column ≡ Some column
    role : column.role ≡ Lookup k
    behind : 7 ≤ r.column

  lookup_of : (k : ℕ) (r : Relationship) → slice_get (relationships_of d) k ≡ Some r → key.table ≡ r.child → IsLookup k r
  lookup_of k r at child = of (slice_get u.target.table.columns r.column) refl
      (sym (ap (λ t. option_map (λ (c : Column). c.role) (option_and_then (λ (t : Table). slice_get t.columns r.column) t)) (ap (slice_get (tables_of d)) (sym child) ∙ table)) ∙ (sound.definition.relationships k r at).column)
    where
      same : (a b : ColumnRole) → Some a ≡ Some b → a ≡ b
      same a b e = cc

      of : (c : Option Column) → slice_get u.target.table.columns r.column ≡ c → option_map (λ (c : Column). c.role) c ≡ Some (Lookup k) → IsLookup k r
      of None there h = absurd (none-some (Lookup k) h)
      of (Some c) there h =
          let role = same c.role (Lookup k) h in
          record {
            column = c;
            there = there;
            role = role;
            behind = behind_system u.target.table.user_owned r.column (subst (λ x. IsSoundRole d u.target.table u.target.number r.column c x) role (sound.definition.columns u.target.number u.target.table table r.column c there)).behind;
          }

  -- a value that is put into the row at a lookup's place is one that the lookup is given
  put_is_named : (k : ℕ) (r : Relationship) → slice_get (relationships_of d) k ≡ Some r → IsLookup k r → (id : Id) → Names (update_values u) (place_of r.column) id → IsIn (naming k r id) (named_rows u)
  unfolding IsIn
  put_is_named k r at l id (one, among, place, is) = on (in_either one (placed_from 0 u.values u.target.table.columns) (touched u.target.setting) among)
    where
      none : (n : ℕ) → n ≡ 0 + n
      none n = omega arith

      given : IsGiven 0 u.values u.target.table.columns one → IsIn (naming k r id) (named_rows u)
      given g =
          let at_column = place_apart g.number r.column l.behind (ap place_of (none g.number) ∙ sym g.place ∙ place) in
          let same = same_column g.column l.column (sym g.there ∙ ap (slice_get u.target.table.columns) at_column ∙ l.there) in
          given_is_named d u.target.table.columns u.values g.number g.column k g.raw id r g.there (ap (λ (c : Column). c.role) same ∙ l.role) g.given (sym g.value ∙ is) at

      system : IsIn one (touched u.target.setting) → IsIn (naming k r id) (named_rows u)
      system (inl e) = absurd (place_above 2 r.column l.behind (omega arith) (sym (ap (λ (o : Placed). o.place) e) ∙ place))
      system (inr (inl e)) = absurd (place_above 3 r.column l.behind (omega arith) (sym (ap (λ (o : Placed). o.place) e) ∙ place))
      system (inr (inr i)) = absurd i

      on : IsIn one (placed_from 0 u.values u.target.table.columns) ⊎ IsIn one (touched u.target.setting) → IsIn (naming k r id) (named_rows u)
      on (inl i) = given (placed_given 0 u.values u.target.table.columns one i)
      on (inr i) = system i

  -- what a lookup of the row names then it named before, or it is given that
  row_names : (k : ℕ) (r : Relationship) → slice_get (relationships_of d) k ≡ Some r → key.table ≡ r.child → (row : Row) (id : Id)
      → named_at (carrying w key (next_version w) (edited (update_values u) row)) (place_of r.column) ≡ Some id → (named_at row (place_of r.column) ≡ Some id) ⊎ IsIn (naming k r id) (named_rows u)
  row_names k r at child row id h = version (value_names (with_values row.values (update_values u)) (version_place (is_owned w.shape key.table)) (place_of r.column) (value.Amount (pos (next_version w))) id h)
    where
      values : Names (update_values u) (place_of r.column) id ⊎ (named_at row (place_of r.column) ≡ Some id) → (named_at row (place_of r.column) ≡ Some id) ⊎ IsIn (naming k r id) (named_rows u)
      values (inl put) = inr (put_is_named k r at (lookup_of k r at child) id put)
      values (inr old) = inl old

      version : ((version_place (is_owned w.shape key.table) ≡ place_of r.column) × (value.Amount (pos (next_version w)) ≡ value.Ref id)) ⊎ (named_by (slice_get (with_values row.values (update_values u)) (place_of r.column)) ≡ Some id)
          → (named_at row (place_of r.column) ≡ Some id) ⊎ IsIn (naming k r id) (named_rows u)
      version (inl put) = absurd (none-some id (ap (λ v. named_by (Some v)) put.1))
      version (inr h) = values (values_name row.values (update_values u) (place_of r.column) id h)

  nothing_done : map.get w.rows key ≡ None → updated u ≡ w
  unfolding applied update_changes row_changed
  nothing_done there = ap (row_changed w key (Set (update_values u))) there

  module _ (row : Row) (there : map.get w.rows key ≡ Some row) where
    after : Row
    after = carrying w key (next_version w) (edited (update_values u) row)

    rows_then : (updated u).rows ≡ map.insert w.rows key after
    unfolding applied update_changes row_changed row_put after
    rows_then = ap (λ o. (row_changed w key (Set (update_values u)) o).rows) there

    get_then : (q : RowKey) → map.get (updated u).rows q ≡ cond (is_row q key) (Some after) (map.get w.rows q)
    get_then q = ap (λ rows. map.get rows q) rows_then ∙ map.get-insert row_total w.rows key after q

    there_then : (q : RowKey) → is_there w.rows q ≡ true → is_there (updated u).rows q ≡ true
    there_then q h = ap is_some (get_then q) ∙ of (is_row q key)
      where
        of : (b : Bool) → is_some (cond b (Some after) (map.get w.rows q)) ≡ true
        of true = refl
        of false = h

    names_then : (k : ℕ) (r : Relationship) → slice_get (relationships_of d) k ≡ Some r → (q : RowKey) → q.table ≡ r.child → (id : Id) → named_in (map.get (updated u).rows q) (place_of r.column) ≡ Some id
        → (named_in (map.get w.rows q) (place_of r.column) ≡ Some id) ⊎ ((q ≡ key) × IsIn (naming k r id) (named_rows u))
    unfolding after
    names_then k r at q child id h = of (is_row q key) refl (sym (ap (λ o. named_in o (place_of r.column)) (get_then q)) ∙ h)
      where
        on : q ≡ key → (named_at row (place_of r.column) ≡ Some id) ⊎ IsIn (naming k r id) (named_rows u) → (named_in (map.get w.rows q) (place_of r.column) ≡ Some id) ⊎ ((q ≡ key) × IsIn (naming k r id) (named_rows u))
        on same (inl old) = inl (ap (λ (x : RowKey). named_in (map.get w.rows x) (place_of r.column)) same ∙ ap (λ o. named_in o (place_of r.column)) there ∙ old)
        on same (inr among) = inr (same, among)

        of : (b : Bool) → is_row q key ≡ b → named_in (cond b (Some after) (map.get w.rows q)) (place_of r.column) ≡ Some id → (named_in (map.get w.rows q) (place_of r.column) ≡ Some id) ⊎ ((q ≡ key) × IsIn (naming k r id) (named_rows u))
        of true is h = let same = row_is q key is in on same (row_names k r at (sym (ap (λ (x : RowKey). x.table) same) ∙ child) row id h)
        of false is h = inl h

    links_then : HasSoundLinks (updated u) d
    unfolding CircleSays
    links_then = record {
      named = λ k r at child id is-child is. named (k) r id (names_then k r at child is-child id is) (λ old. sound.links.named k r at child id is-child old);
      no_circle = new_parents w (updated u) d key sound.links.no_circle (record { links = λ child parent under. link child parent under (names_then under.number under.relationship under.there child under.refers.child_table parent.id (id_named parent.id (named_in (map.get (updated u).rows child) (place_of under.relationship.column)) under.refers.named)) });
    }
      where
        named : (k : ℕ) (r : Relationship) (id : Id) {A B : Type 0} → A ⊎ (B × IsIn (naming k r id) (named_rows u)) → (A → is_there w.rows (row_key r.parent id) ≡ true) → is_there (updated u).rows (row_key r.parent id) ≡ true
        named k r id (inl old) were = there_then (row_key r.parent id) (were old)
        named k r id (inr given) were = there_then (row_key r.parent id) (named_is_there u.target (named_rows u) all_there (naming k r id) given.1)

        apart : (child parent : RowKey) (under : IsUnderParent (updated u) d child parent) → IsIn (naming under.number under.relationship parent.id) (named_rows u) → IsNotUnder w d key parent
        apart child parent under among =
            let r = under.relationship in
            let says = passes (λ (naming : Naming) said. OfRelationship w d key naming.parent (relationship_at d naming.relationship) said) (named_rows u) no_circles (naming under.number r parent.id) among in
            let of = subst (λ o. OfRelationship w d key (row_key r.parent parent.id) o None) under.there says in
            let parental : IsNotUnder w d key (row_key r.parent parent.id) = subst (λ b. LookupSays w d key (row_key r.parent parent.id) r b None) under.parental of in
            subst (λ (k : RowKey). IsNotUnder w d key k) (λ j. record { table = sym under.refers.parent_table j; id = parent.id }) parental

        link : (child parent : RowKey) (under : IsUnderParent (updated u) d child parent)
            → (named_in (map.get w.rows child) (place_of under.relationship.column) ≡ Some parent.id) ⊎ ((child ≡ key) × IsIn (naming under.number under.relationship parent.id) (named_rows u))
            → IsUnderParent w d child parent ⊎ ((child ≡ key) × IsNotUnder w d key parent)
        link child parent under (inl old) = inl (record {
          number = under.number;
          relationship = under.relationship;
          there = under.there;
          parental = under.parental;
          refers = record {
            child_table = under.refers.child_table;
            parent_table = under.refers.parent_table;
            named = names_it parent.id (named_in (map.get w.rows child) (place_of under.relationship.column)) old;
          };
        })
        link child parent under (inr given) = inr (given.0, apart child parent under given.1)

  -- the world with the row changed has sound links, as the checks pass
  pub updated_sound : IsSoundWorld d (updated u)
  updated_sound = record {
    definition = sound.definition;
    shape = applied_shape (update_changes u) w ∙ sound.shape;
    links = of (map.get w.rows key) refl;
  }
    where
      of : (o : Option Row) → map.get w.rows key ≡ o → HasSoundLinks (updated u) d
      of None there = sound_alike w (updated u) d (ap (λ (v : World). v.rows) (nothing_done there)) sound.links
      of (Some row) there = links_then row there

-- where the row's values could be set, what the limit of grants says of what follows is what the limits say of the update
pub update_limit : (u : Updating) (row : RowKey) (before : Option RowKey) (changes : List Change) (new : World) (result : Result (Unit {0}) Stop)
    → row ≡ key_of u.target → before ≡ parent_of u.target.world u.target.setting.definition row → changes ≡ update_changes u → new ≡ applied changes u.target.world → None ≡ first_limit changes u.target.world
    → Answers (LimitSays (Settles u.target.setting.definition row before new) new) result → Answers (UpdateLimit u) result
update_limit u row before changes new result is were made then within told =
    subst (λ limit. Answers (λ said. LimitThen limit (LimitSays (Settles d (key_of u.target) (parent_of w d (key_of u.target)) (updated u)) (updated u)) said) result) (within ∙ ap (λ c. first_limit c w) made)
    (subst (λ v. Says (key_of u.target) (parent_of w d (key_of u.target)) v) (then ∙ ap (λ c. applied c w) made)
    (subst (λ b. Says (key_of u.target) b new) (were ∙ ap (parent_of w d) is) (subst (λ k. Says k before new) is told)))
  where
    w : World
    w = u.target.world

    d : Definition
    d = u.target.setting.definition

    Says : RowKey → Option RowKey → World → Type 0
    Says row before set = Answers (LimitSays (Settles d row before set) set) result
