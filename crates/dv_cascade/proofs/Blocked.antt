-- What a walk over rows, or over children, hasn't found.
use Rattle.std.proofs.Common.{◌≡◌, refl, sym, ap, subst, ◌∙◌, ℕ, zero, suc, ◌+◌, ◌-◌, ◌<◌, ◌≤◌, Bool, true, false, cond, List, [], ◌∷◌, ◌++◌, length, take, is_some, arith}
use Rattle.std.proofs.lemmas.Bool.{true≢false, lt-ltb, ltb-true, ltb-false}
use Rattle.std.proofs.lemmas.List.Folds.{list_any-append}
use Rattle.std.proofs.lemmas.Option.{slice_get_within}
use Rattle.std.specs.Prelude.{◌||◌, Option, None, Some, nat_lt, slice_get}
use Rattle.std.specs.FinMap as map
use Rattle.dv_value.specs.declared.id.Id.{Id}
use Rattle.dv_schema.specs.declared.definition.Definition.{Definition}
use Rattle.dv_schema.specs.declared.relationship.Relationship.{Relationship}
use Rattle.dv_schema.specs.Definitions.{relationships_of}
use Rattle.dv_store.specs.declared.keys.RowKey.{RowKey}
use Rattle.dv_store.specs.Keys.{row_key, is_row}
use Rattle.dv_store.specs.Shapes.{place_of}
use Rattle.dv_store.specs.World.{World, names}
use Rattle.dv_store.specs.Cursors.{IsPast, IsNext, IsLeast}
use Rattle.dv_cascade.specs.Links.{relationship_at}
use Rattle.dv_cascade.specs.Chains.{is_among}
use Rattle.dv_cascade.specs.Found.{with_row}
use Rattle.dv_cascade.specs.Removal.{IsFirst, IsOutside, HasOutside, IsReferredTo, BlocksBy, Blocks}
use Rattle.dv_cascade.proofs.Among.{row_is, among-at, among-place, at-past}

-- a row more, or the same row again
among-with_row : (rows : List RowKey) (row key : RowKey) → is_among (with_row rows row) key ≡ is_among (rows ++ row ∷ []) key
among-with_row rows row key = of (is_among rows row) refl
  where
    absorbed : (a b : Bool) → (b ≡ true → a ≡ true) → a ≡ (a || (b || false))
    absorbed true b h = refl
    absorbed false true h = h refl
    absorbed false false h = refl

    of : (b : Bool) → is_among rows row ≡ b → is_among (cond b rows (rows ++ row ∷ [])) key ≡ is_among (rows ++ row ∷ []) key
    of false there = refl
    of true there = absorbed (is_among rows key) (is_row key row) (λ is. ap (is_among rows) (row_is key row is) ∙ there) ∙ sym (list_any-append (is_row key) rows (row ∷ []))

take-next : (rows : List RowKey) (n : ℕ) (row : RowKey) → slice_get rows n ≡ Some row → take (suc n) rows ≡ take n rows ++ row ∷ []
take-next [] n row at = absurd (true≢false (sym (ap is_some at)))
take-next (x ∷ rows) zero row at = ap (λ r. r ∷ []) (same x row at)
  where
    same : (a b : RowKey) → Some a ≡ Some b → a ≡ b
    same a b e = cc
take-next (x ∷ rows) (suc n) row at = ap (λ rest. x ∷ rest) (take-next rows n row at)

take-past : (rows : List RowKey) (n : ℕ) → slice_get rows n ≡ None → take n rows ≡ rows
take-past [] zero past = refl
take-past [] (suc n) past = refl
take-past (x ∷ rows) zero past = absurd (true≢false (ap is_some past))
take-past (x ∷ rows) (suc n) past = ap (λ rest. x ∷ rest) (take-past rows n past)

pub rows_more : (rows found new : List RowKey) (n after : ℕ) (row : RowKey) → after ≡ n + 1 → slice_get rows n ≡ Some row → new ≡ with_row found row → ((key : RowKey) → is_among found key ≡ is_among (take n rows) key)
    → (key : RowKey) → is_among new key ≡ is_among (take after rows) key
rows_more rows found new n after row is at e had key =
    ap (λ r. is_among r key) e ∙ among-with_row found row key ∙ list_any-append (is_row key) found (row ∷ []) ∙ ap (λ b. b || is_among (row ∷ []) key) (had key)
    ∙ sym (list_any-append (is_row key) (take n rows) (row ∷ [])) ∙ ap (λ r. is_among r key) (sym (take-next rows n row at)) ∙ ap (λ m. is_among (take m rows) key) (next is)
  where
    next : after ≡ n + 1 → suc n ≡ after
    next e = omega (arith, e)

pub rows_end : (rows found : List RowKey) (n : ℕ) → slice_get rows n ≡ None → ((key : RowKey) → is_among found key ≡ is_among (take n rows) key) → (key : RowKey) → is_among found key ≡ is_among rows key
rows_end rows found n past had key = had key ∙ ap (λ r. is_among r key) (take-past rows n past)

pub falls : {X : Type 0} (xs : List X) (n : ℕ) (x : X) → slice_get xs n ≡ Some x → length xs - (n + 1) < length xs - n
falls xs n x at = of (length xs) (slice_get_within xs n x at)
  where
    of : (m : ℕ) → n < m → m - (n + 1) < m - n
    of m l = omega (arith, l)

module _ (w : World) (r : Relationship) (set : List RowKey) (parent : RowKey) where
  abbrev Is : Id → Type 0
  Is id = IsOutside w r set parent (row_key r.child id)

  beyond : (last : Option Id) (id : Id) → (IsPast last id → ⊥) → (next : Id) → IsPast last next → id.0 ≤ next.0
  beyond None id h next p = absurd (h tt)
  beyond (Some last) id h next p = of (nat_lt last.0 id.0) refl
    where
      of : (b : Bool) → nat_lt last.0 id.0 ≡ b → id.0 ≤ next.0
      of true e = absurd (h (ltb-true last.0 id.0 e))
      of false e = omega (arith, p, ltb-false last.0 id.0 e)

  is_child : (id : Id) → IsOutside w r set parent (row_key r.child id) → names (map.get w.rows (row_key r.child id)) (place_of r.column) parent.id ≡ true
  is_child id h = h.refers.named

  -- no row outside up to the last one that was seen
  pub outside_found : (last : Option Id) (id : Id) → parent.table ≡ r.parent → ((other : Id) → IsOutside w r set parent (row_key r.child other) → IsPast last other)
      → IsNext (λ x. names (map.get w.rows (row_key r.child x)) (place_of r.column) parent.id ≡ true) last (Some id) → is_among set (row_key r.child id) ≡ false
      → IsLeast (λ x. IsOutside w r set parent (row_key r.child x)) None id
  outside_found last id table past next out = record {
    there = record { refers = record { child_table = refl; parent_table = table; named = next.there }; outside = out };
    past = tt;
    least = λ other h _. next.least other (is_child other h) (past other h);
  }

  pub outside_more : (last : Option Id) (id : Id) → ((other : Id) → IsOutside w r set parent (row_key r.child other) → IsPast last other)
      → IsNext (λ x. names (map.get w.rows (row_key r.child x)) (place_of r.column) parent.id ≡ true) last (Some id) → is_among set (row_key r.child id) ≡ true
      → (other : Id) → IsOutside w r set parent (row_key r.child other) → IsPast (Some id) other
  outside_more last id past next inside other h = of (nat_lt id.0 other.0) refl
    where
      equal : (a b : ℕ) → a ≤ b → nat_lt a b ≡ false → b ≡ a
      equal a b le e = omega (arith, le, ltb-false a b e)

      of : (b : Bool) → nat_lt id.0 other.0 ≡ b → id.0 < other.0
      of true e = ltb-true id.0 other.0 e
      of false e =
          let is = equal id.0 other.0 (next.least other (is_child other h) (past other h)) e in
          let row : row_key r.child other ≡ row_key r.child id = λ j. record { table = r.child; id = record { 0 = is j } } in
          absurd (true≢false (sym inside ∙ ap (is_among set) (sym row) ∙ h.outside))

  pub outside_end : (last : Option Id) → ((other : Id) → IsOutside w r set parent (row_key r.child other) → IsPast last other)
      → IsNext (λ x. names (map.get w.rows (row_key r.child x)) (place_of r.column) parent.id ≡ true) last None → (other : Id) → IsOutside w r set parent (row_key r.child other) → IsPast None other → ⊥
  outside_end last past next other h _ = next other (is_child other h) (past other h)

  pub child_key : (child : RowKey) → IsOutside w r set parent child → IsOutside w r set parent (row_key r.child child.id)
  child_key child h = subst (λ k. IsOutside w r set parent k) (λ j. record { table = h.refers.child_table j; id = child.id }) h

-- no row of those before a place has a row outside that names it
module _ (w : World) (r : Relationship) (set : List RowKey) where
  pub none_more : (n after : ℕ) (parent : RowKey) → after ≡ n + 1 → slice_get set n ≡ Some parent → (HasOutside w r set parent → ⊥)
      → ((i : ℕ) (p : RowKey) → i < n → slice_get set i ≡ Some p → HasOutside w r set p → ⊥)
      → (i : ℕ) (p : RowKey) → i < after → slice_get set i ≡ Some p → HasOutside w r set p → ⊥
  none_more n after parent is at not before i p l there has = of (nat_lt i n) refl
    where
      same : (a b : RowKey) → Some a ≡ Some b → a ≡ b
      same a b e = cc

      equal : nat_lt i n ≡ false → i ≡ n
      equal e = omega (arith, l, is, ltb-false i n e)

      of : (b : Bool) → nat_lt i n ≡ b → ⊥
      of true e = before i p (ltb-true i n e) there has
      of false e = not (subst (λ k. HasOutside w r set k) (same p parent (sym there ∙ ap (slice_get set) (equal e) ∙ at)) has)

  pub none_end : (n : ℕ) → slice_get set n ≡ None → ((i : ℕ) (p : RowKey) → i < n → slice_get set i ≡ Some p → HasOutside w r set p → ⊥) → IsReferredTo w r set → ⊥
  none_end n past before h = let place = among-place set h.parent h.inside in before place.0 h.parent (at-past set n place.0 h.parent past place.1) place.1 h.has

  pub some_is : (n : ℕ) (parent : RowKey) → slice_get set n ≡ Some parent → HasOutside w r set parent → IsReferredTo w r set
  some_is n parent at has = record { parent = parent; inside = among-at set n parent at; has = has }

module _ (w : World) (d : Definition) (set : List RowKey) where
  at_number : (number : ℕ) (r : Relationship) → relationship_at d number ≡ Some r → (number < 65536) × (slice_get (relationships_of d) number ≡ Some r)
  at_number number r is = of (nat_lt number 65536) refl is
    where
      of : (b : Bool) → nat_lt number 65536 ≡ b → cond b (slice_get (relationships_of d) number) None ≡ Some r → (number < 65536) × (slice_get (relationships_of d) number ≡ Some r)
      of true e is = (ltb-true number 65536 e, is)
      of false e never = absurd (true≢false (sym (ap is_some never)))

  pub blocks_is : (number : ℕ) (r : Relationship) → number < 65536 → slice_get (relationships_of d) number ≡ Some r → BlocksBy w set r → Blocks w d set number
  blocks_is number r l at by = record { relationship = r; there = ap (λ b. cond b (slice_get (relationships_of d) number) None) (lt-ltb number 65536 l) ∙ at; by = by }

  pub none_blocks_more : (number after : ℕ) (r : Relationship) → after ≡ number + 1 → slice_get (relationships_of d) number ≡ Some r → (BlocksBy w set r → ⊥)
      → ((m : ℕ) → m < number → Blocks w d set m → ⊥) → (m : ℕ) → m < after → Blocks w d set m → ⊥
  none_blocks_more number after r is at not before m l h = of (nat_lt m number) refl
    where
      same : (a b : Relationship) → Some a ≡ Some b → a ≡ b
      same a b e = cc

      equal : nat_lt m number ≡ false → m ≡ number
      equal e = omega (arith, l, is, ltb-false m number e)

      of : (b : Bool) → nat_lt m number ≡ b → ⊥
      of true e = before m (ltb-true m number e) h
      of false e = not (subst (λ x. BlocksBy w set x) (same h.relationship r (sym (at_number m h.relationship h.there).1 ∙ ap (slice_get (relationships_of d)) (equal e) ∙ at)) h.by)

  pub none_blocks_past : (number : ℕ) → slice_get (relationships_of d) number ≡ None → ((m : ℕ) → m < number → Blocks w d set m → ⊥) → (m : ℕ) → Blocks w d set m → ⊥
  none_blocks_past number past before m h = before m (at-past (relationships_of d) number m h.relationship past (at_number m h.relationship h.there).1) h

  pub none_blocks_full : (number : ℕ) → number ≡ 65535 → ((m : ℕ) → m < number + 1 → Blocks w d set m → ⊥) → (m : ℕ) → Blocks w d set m → ⊥
  none_blocks_full number is before m h = before m (within m number is (at_number m h.relationship h.there).0) h
    where
      within : (a n : ℕ) → n ≡ 65535 → a < 65536 → a < n + 1
      within a n e l = omega (arith, e, l)

-- a list with the same rows is blocked alike
module _ (w : World) (d : Definition) (a b : List RowKey) (alike : (key : RowKey) → is_among a key ≡ is_among b key) where
  pub blocks_alike : (number : ℕ) → Blocks w d a number → Blocks w d b number
  blocks_alike number h = record {
    relationship = h.relationship;
    there = h.there;
    by = record {
      restricts = h.by.restricts;
      referred = record {
        parent = h.by.referred.parent;
        inside = sym (alike h.by.referred.parent) ∙ h.by.referred.inside;
        has = record {
          child = h.by.referred.has.child;
          is = record { refers = h.by.referred.has.is.refers; outside = sym (alike h.by.referred.has.child) ∙ h.by.referred.has.is.outside };
        };
      };
    };
  }

pub first_alike : (w : World) (d : Definition) (a b : List RowKey) → ((key : RowKey) → is_among a key ≡ is_among b key) → (result : Option ℕ) → IsFirst (Blocks w d a) result → IsFirst (Blocks w d b) result
first_alike w d a b alike None first = λ number h. first number (blocks_alike w d b a (λ key. sym (alike key)) number h)
first_alike w d a b alike (Some number) first = record { is = blocks_alike w d a b alike number first.is; least = λ other l h. first.least other l (blocks_alike w d b a (λ key. sym (alike key)) other h) }
