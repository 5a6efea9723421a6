-- The lookups that walks over relationships, rows and children have found.
use Rattle.std.proofs.Common.{◌≡◌, refl, sym, ap, subst, ◌∙◌, ℕ, ◌+◌, ◌<◌, ◌≤◌, ◌⊎◌, inl, inr, Bool, true, false, cond, List, [], is_some, arith}
use Rattle.std.proofs.lemmas.Bool.{true≢false, lt-ltb, ltb-true, ltb-false}
use Rattle.std.proofs.lemmas.Map.Lookups.{exact_unsigned}
use Rattle.std.specs.Prelude.{IsTrue, ◌||◌, Option, None, Some, nat_lt, slice_get}
use Rattle.std.specs.declared.cmp.Ordering.{Ordering}
use Rattle.std.specs.declared.cmp.Ordering.TheVariants.{Less, Equal, Greater}
use Rattle.std.specs.Cmp.{IsTotalOrder, Equal-is, tied_itself}
use Rattle.std.specs.Ordering.{is_eq, ordering_then}
use Rattle.std.specs.FinMap as map
use Rattle.dv_value.specs.declared.id.Id.{Id}
use Rattle.dv_schema.specs.declared.definition.Definition.{Definition}
use Rattle.dv_schema.specs.declared.relationship.Relationship.{Relationship}
use Rattle.dv_schema.specs.Definitions.{relationships_of}
use Rattle.dv_store.specs.declared.keys.RowKey.{RowKey}
use Rattle.dv_store.specs.Exact.{exact_row}
use Rattle.dv_store.specs.Keys.{row_key}
use Rattle.dv_store.specs.Shapes.{place_of}
use Rattle.dv_store.specs.World.{World, names}
use Rattle.dv_store.specs.Cursors.{IsPast, IsNext}
use Rattle.dv_cascade.specs.declared.lookup.LookupKey.{LookupKey}
use Rattle.dv_cascade.specs.contracts.lookup.LookupKeyOrd.TheImpl.Laws.{total-law}
use Rattle.dv_cascade.specs.Links.{relationship_at}
use Rattle.dv_cascade.specs.Chains.{is_among, AreExactly}
use Rattle.dv_cascade.specs.Removal.{empties_lookups, lookup_cmp, EmptiesBy, IsCleared, NamesInto}
use Rattle.dv_cascade.specs.Cleared.{is_lookup, has_lookup, Adds, IsSpared, Names}
use Rattle.dv_cascade.proofs.Among.{among-at, among-place, at-past, or-left, or-right, or-split}

lookup_total : IsTotalOrder lookup_cmp
lookup_total = total-law

lookup-itself : (key : LookupKey) → is_lookup key key ≡ true
lookup-itself key = ap is_eq (tied_itself lookup_total key)

then-Equal : (r s : Ordering) → ordering_then r s ≡ Equal → (r ≡ Equal) × (s ≡ Equal)
then-Equal Less s e = absurd (true≢false (ap is_eq (sym e)))
then-Equal Equal s e = (refl, e)
then-Equal Greater s e = absurd (true≢false (ap is_eq (sym e)))

lookup-is : (a b : LookupKey) → is_lookup a b ≡ true → a ≡ b
lookup-is a b e =
    let p = then-Equal _ _ ((Equal-is (lookup_cmp a b)).0 e) in
    let r = exact_row a.row b.row p.0 in
    let i = exact_unsigned a.column b.column p.1 in
    λ j. record { row = r j; column = i j }

-- nothing is added
pub nothing : (P : LookupKey → Type 0) (found : List LookupKey) → ((key : LookupKey) → P key → ⊥) → Adds P found found
nothing P found never = record { exactly = λ key. (λ h. inl h, λ h. of key h) }
  where
    of : (key : LookupKey) → IsTrue (has_lookup found key) ⊎ P key → IsTrue (has_lookup found key)
    of key (inl h) = h
    of key (inr p) = absurd (never key p)

-- the same said otherwise
pub said : (P Q : LookupKey → Type 0) (a b : List LookupKey) → ((key : LookupKey) → P key → Q key) → ((key : LookupKey) → Q key → P key) → Adds P a b → Adds Q a b
said P Q a b to from f = record { exactly = λ key. (λ h. forth key ((f.exactly key).0 h), λ h. (f.exactly key).1 (back key h)) }
  where
    forth : (key : LookupKey) → IsTrue (has_lookup a key) ⊎ P key → IsTrue (has_lookup a key) ⊎ Q key
    forth key (inl old) = inl old
    forth key (inr p) = inr (to key p)

    back : (key : LookupKey) → IsTrue (has_lookup a key) ⊎ Q key → IsTrue (has_lookup a key) ⊎ P key
    back key (inl old) = inl old
    back key (inr q) = inr (from key q)

-- one after the other
pub both : (P Q : LookupKey → Type 0) (a b c : List LookupKey) → Adds P a b → Adds Q b c → Adds (λ key. P key ⊎ Q key) a c
both P Q a b c f s = record { exactly = λ key. (λ h. forth key ((s.exactly key).0 h), λ h. back key h) }
  where
    first : (key : LookupKey) → IsTrue (has_lookup a key) ⊎ P key → IsTrue (has_lookup a key) ⊎ (P key ⊎ Q key)
    first key (inl old) = inl old
    first key (inr p) = inr (inl p)

    forth : (key : LookupKey) → IsTrue (has_lookup b key) ⊎ Q key → IsTrue (has_lookup a key) ⊎ (P key ⊎ Q key)
    forth key (inl there) = first key ((f.exactly key).0 there)
    forth key (inr q) = inr (inr q)

    back : (key : LookupKey) → IsTrue (has_lookup a key) ⊎ (P key ⊎ Q key) → IsTrue (has_lookup c key)
    back key (inl old) = (s.exactly key).1 (inl ((f.exactly key).1 (inl old)))
    back key (inr (inl p)) = (s.exactly key).1 (inl ((f.exactly key).1 (inr p)))
    back key (inr (inr q)) = (s.exactly key).1 (inr q)

-- a lookup of a row outside a set
pub spared : (set : List RowKey) (lookup : LookupKey) (old new : List LookupKey) → is_among set lookup.row ≡ false → ((other : LookupKey) → has_lookup new other ≡ (is_lookup lookup other || has_lookup old other))
    → Adds (IsSpared set lookup) old new
spared set lookup old new out is = record { exactly = λ key. (λ h. forth key (or-split (is_lookup lookup key) (has_lookup old key) (sym (is key) ∙ h)), λ h. is key ∙ back key h) }
  where
    forth : (key : LookupKey) → IsTrue (is_lookup lookup key) ⊎ IsTrue (has_lookup old key) → IsTrue (has_lookup old key) ⊎ IsSpared set lookup key
    forth key (inl this) = inr (record { is = sym (lookup-is lookup key this); outside = out })
    forth key (inr before) = inl before

    back : (key : LookupKey) → IsTrue (has_lookup old key) ⊎ IsSpared set lookup key → IsTrue (is_lookup lookup key || has_lookup old key)
    back key (inl before) = or-right (is_lookup lookup key) (has_lookup old key) before
    back key (inr this) = or-left (is_lookup lookup key) (has_lookup old key) (ap (is_lookup lookup) this.is ∙ lookup-itself lookup)

pub not_spared : (set : List RowKey) (lookup : LookupKey) (found : List LookupKey) → is_among set lookup.row ≡ true → Adds (IsSpared set lookup) found found
not_spared set lookup found inside = nothing (IsSpared set lookup) found (λ key h. true≢false (sym inside ∙ h.outside))

-- the lookups of the children that a walk has come to
pub record NamesUpTo (w : World) (r : Relationship) (set : List RowKey) (parent : RowKey) (last : Option Id) (key : LookupKey) : Type 0 where
  pub names : Names w r set parent key
  pub seen : IsPast last key.row.id → ⊥

abbrev pub lookup_of : Relationship → Id → LookupKey
lookup_of r id = record { row = row_key r.child id; column = r.column }

module _ (w : World) (r : Relationship) (set : List RowKey) (parent : RowKey) (table : parent.table ≡ r.parent) where
  pub children_begin : (found : List LookupKey) → Adds (NamesUpTo w r set parent None) found found
  children_begin found = nothing (NamesUpTo w r set parent None) found (λ key h. h.seen tt)

  is_child : (key : LookupKey) → Names w r set parent key → names (map.get w.rows (row_key r.child key.row.id)) (place_of r.column) parent.id ≡ true
  is_child key h = subst (λ k. names (map.get w.rows k) (place_of r.column) parent.id ≡ true) (child_is key.row h.is.refers.child_table) h.is.refers.named
    where
      child_is : (k : RowKey) → k.table ≡ r.child → k ≡ row_key r.child k.id
      child_is k e = λ j. record { table = e j; id = k.id }

  past_or : (last : Option Id) (id : Id) → IsPast last id ⊎ (IsPast last id → ⊥)
  past_or None id = inl tt
  past_or (Some last) id = of (nat_lt last.0 id.0) refl
    where
      of : (b : Bool) → nat_lt last.0 id.0 ≡ b → (last.0 < id.0) ⊎ ((last.0 < id.0) → ⊥)
      of true is = inl (ltb-true last.0 id.0 is)
      of false is = inr (λ l. omega (arith, l, ltb-false last.0 id.0 is))

  beyond : (last : Option Id) (key next : Id) → IsPast last next → next.0 < key.0 → IsPast last key
  beyond None key next p l = tt
  beyond (Some last) key next p l = omega (arith, p, l)

  pub children_more : (last : Option Id) (id : Id) (a b c : List LookupKey) → Adds (NamesUpTo w r set parent last) a b
      → IsNext (λ x. names (map.get w.rows (row_key r.child x)) (place_of r.column) parent.id ≡ true) last (Some id)
      → Adds (IsSpared set (lookup_of r id)) b c → Adds (NamesUpTo w r set parent (Some id)) a c
  children_more last id a b c f next g = said (λ key. NamesUpTo w r set parent last key ⊎ IsSpared set (lookup_of r id) key) (NamesUpTo w r set parent (Some id)) a c to from (both (NamesUpTo w r set parent last) (IsSpared set (lookup_of r id)) a b c f g)
    where
      this : is_among set (row_key r.child id) ≡ false → NamesUpTo w r set parent (Some id) (lookup_of r id)
      this out = record {
        names = record { column = refl; is = record { refers = record { child_table = refl; parent_table = table; named = next.there }; outside = out } };
        seen = λ l. omega (arith, l);
      }

      to : (key : LookupKey) → NamesUpTo w r set parent last key ⊎ IsSpared set (lookup_of r id) key → NamesUpTo w r set parent (Some id) key
      to key (inl h) = record { names = h.names; seen = λ l. h.seen (beyond last key.row.id id next.past l) }
      to key (inr h) = subst (λ k. NamesUpTo w r set parent (Some id) k) (sym h.is) (this h.outside)

      row_meets : (row : RowKey) → row.table ≡ r.child → row.id.0 ≡ id.0 → row ≡ row_key r.child id
      row_meets row t e = λ j. record { table = t j; id = record { 0 = e j } }

      meets : (key : LookupKey) → key.row ≡ row_key r.child id → key.column ≡ r.column → key ≡ lookup_of r id
      meets key e c = λ j. record { row = e j; column = c j }

      equal : (k n : ℕ) → ((n < k) → ⊥) → n ≤ k → k ≡ n
      equal k n not le = omega (arith, not, le)

      from : (key : LookupKey) → NamesUpTo w r set parent (Some id) key → NamesUpTo w r set parent last key ⊎ IsSpared set (lookup_of r id) key
      from key h = of (past_or last key.row.id)
        where
          of : IsPast last key.row.id ⊎ (IsPast last key.row.id → ⊥) → NamesUpTo w r set parent last key ⊎ IsSpared set (lookup_of r id) key
          of (inr seen) = inl (record { names = h.names; seen = seen })
          of (inl past) =
              let row : key.row ≡ row_key r.child id = row_meets key.row h.names.is.refers.child_table (equal key.row.id.0 id.0 h.seen (next.least key.row.id (is_child key h.names) past)) in
              inr (record { is = meets key row h.names.column; outside = ap (is_among set) (sym row) ∙ h.names.is.outside })

  pub children_end : (last : Option Id) (a b : List LookupKey) → Adds (NamesUpTo w r set parent last) a b
      → IsNext (λ x. names (map.get w.rows (row_key r.child x)) (place_of r.column) parent.id ≡ true) last None → Adds (Names w r set parent) a b
  children_end last a b f next = said (NamesUpTo w r set parent last) (Names w r set parent) a b (λ key h. h.names) (λ key h. record { names = h; seen = λ past. next key.row.id (is_child key h) past }) f

-- the lookups of which something is so by an item before a place
pub record Below {X : Type 0} (xs : List X) (Is : X → LookupKey → Type 0) (last : ℕ) (key : LookupKey) : Type 0 where
  pub place : ℕ
  pub below : place < last
  pub item : X
  pub there : slice_get xs place ≡ Some item
  pub is : Is item key

module _ {X : Type 0} (xs : List X) (Is : X → LookupKey → Type 0) where
  pub below_begin : (found : List LookupKey) → Adds (Below xs Is 0) found found
  below_begin found = nothing (Below xs Is 0) found (λ key h. never h.place h.below)
    where
      never : (n : ℕ) → n < 0 → ⊥
      never n l = omega (arith, l)

  same_item : (a b : X) → Some a ≡ Some b → a ≡ b
  same_item a b e = cc

  pub below_more : (place next : ℕ) (x : X) (a b c : List LookupKey) → slice_get xs place ≡ Some x → next ≡ place + 1 → Adds (Below xs Is place) a b → Adds (Is x) b c → Adds (Below xs Is next) a c
  below_more place next x a b c there e f g = said (λ key. Below xs Is place key ⊎ Is x key) (Below xs Is next) a c to from (both (Below xs Is place) (Is x) a b c f g)
    where
      to : (key : LookupKey) → Below xs Is place key ⊎ Is x key → Below xs Is next key
      to key (inl h) = record { place = h.place; below = omega (arith, h.below, e); item = h.item; there = h.there; is = h.is }
      to key (inr h) = record { place = place; below = omega (arith, e); item = x; there = there; is = h }

      below-or : (n : ℕ) → n < next → (n < place) ⊎ (n ≡ place)
      below-or n l = of (nat_lt n place) refl
        where
          of : (b : Bool) → nat_lt n place ≡ b → (n < place) ⊎ (n ≡ place)
          of true t = inl (ltb-true n place t)
          of false t = inr (omega (arith, l, e, ltb-false n place t))

      from : (key : LookupKey) → Below xs Is next key → Below xs Is place key ⊎ Is x key
      from key h = of (below-or h.place h.below)
        where
          of : (h.place < place) ⊎ (h.place ≡ place) → Below xs Is place key ⊎ Is x key
          of (inl below) = inl (record { place = h.place; below = below; item = h.item; there = h.there; is = h.is })
          of (inr same) = inr (subst (λ y. Is y key) (same_item h.item x (sym h.there ∙ ap (slice_get xs) same ∙ there)) h.is)

-- all rows of a set were walked over
pub parents_end : (w : World) (r : Relationship) (set : List RowKey) (last : ℕ) (a b : List LookupKey) → slice_get set last ≡ None → Adds (Below set (Names w r set) last) a b → Adds (NamesInto w r set) a b
parents_end w r set last a b past f = said (Below set (Names w r set) last) (NamesInto w r set) a b to from f
  where
    to : (key : LookupKey) → Below set (Names w r set) last key → NamesInto w r set key
    to key h = record { column = h.is.column; parent = h.item; inside = among-at set h.place h.item h.there; is = h.is.is }

    from : (key : LookupKey) → NamesInto w r set key → Below set (Names w r set) last key
    from key h =
        let place = among-place set h.parent h.inside in
        record { place = place.0; below = at-past set last place.0 h.parent past place.1; item = h.parent; there = place.1; is = record { column = h.column; is = h.is } }

pub empties : (w : World) (set : List RowKey) (r : Relationship) (a b : List LookupKey) → empties_lookups r.delete ≡ true → Adds (NamesInto w r set) a b → Adds (EmptiesBy w set r) a b
empties w set r a b e f = said (NamesInto w r set) (EmptiesBy w set r) a b (λ key h. record { empties = e; into = h }) (λ key h. h.into) f

-- all relationships that have numbers were walked over
module _ (w : World) (d : Definition) (set : List RowKey) where
  at_number : (number : ℕ) (r : Relationship) → relationship_at d number ≡ Some r → (number < 65536) × (slice_get (relationships_of d) number ≡ Some r)
  at_number number r is = of (nat_lt number 65536) refl is
    where
      of : (b : Bool) → nat_lt number 65536 ≡ b → cond b (slice_get (relationships_of d) number) None ≡ Some r → (number < 65536) × (slice_get (relationships_of d) number ≡ Some r)
      of true e is = (ltb-true number 65536 e, is)
      of false e never = absurd (true≢false (sym (ap is_some never)))

  pub relationships_end : (last : ℕ) (a b : List LookupKey) → last ≤ 65536 → ((number : ℕ) (r : Relationship) → number < 65536 → slice_get (relationships_of d) number ≡ Some r → number < last)
      → Adds (Below (relationships_of d) (EmptiesBy w set) last) a b → Adds (IsCleared w d set) a b
  relationships_end last a b most within f = said (Below (relationships_of d) (EmptiesBy w set) last) (IsCleared w d set) a b to from f
    where
      small : (number : ℕ) → number < last → nat_lt number 65536 ≡ true
      small number l = lt-ltb number 65536 (omega (arith, l, most))

      to : (key : LookupKey) → Below (relationships_of d) (EmptiesBy w set) last key → IsCleared w d set key
      to key h = record { number = h.place; relationship = h.item; there = ap (λ b. cond b (slice_get (relationships_of d) h.place) None) (small h.place h.below) ∙ h.there; by = h.is }

      from : (key : LookupKey) → IsCleared w d set key → Below (relationships_of d) (EmptiesBy w set) last key
      from key h = let is = at_number h.number h.relationship h.there in record { place = h.number; below = within h.number h.relationship is.0 is.1; item = h.relationship; there = is.1; is = h.by }

-- a list with the same rows empties the same lookups
module _ (w : World) (d : Definition) (a b : List RowKey) (alike : (key : RowKey) → is_among a key ≡ is_among b key) where
  cleared_alike : (key : LookupKey) → IsCleared w d a key → IsCleared w d b key
  cleared_alike key h = record {
    number = h.number;
    relationship = h.relationship;
    there = h.there;
    by = record {
      empties = h.by.empties;
      into = record {
        column = h.by.into.column;
        parent = h.by.into.parent;
        inside = sym (alike h.by.into.parent) ∙ h.by.into.inside;
        is = record { refers = h.by.into.is.refers; outside = sym (alike key.row) ∙ h.by.into.is.outside };
      };
    };
  }

pub cleared_are : (w : World) (d : Definition) (rows set : List RowKey) (none found lookups : List LookupKey) → ((key : RowKey) → is_among rows key ≡ is_among set key) → none ≡ [] → Adds (IsCleared w d rows) none found
    → AreExactly lookup_cmp (λ key. IsTrue (has_lookup found key)) lookups → AreExactly lookup_cmp (IsCleared w d set) lookups
cleared_are w d rows set none found lookups alike empty f exact = record {
  ascending = exact.ascending;
  exactly = λ key. (λ h. to key ((f.exactly key).0 ((exact.exactly key).0 h)), λ h. (exact.exactly key).1 ((f.exactly key).1 (inr (cleared_alike w d set rows (λ k. sym (alike k)) key h))));
}
  where
    to : (key : LookupKey) → IsTrue (has_lookup none key) ⊎ IsCleared w d rows key → IsCleared w d set key
    to key (inl never) = absurd (true≢false (sym (sym (ap (λ l. has_lookup l key) empty) ∙ never)))
    to key (inr h) = cleared_alike w d rows set alike key h
