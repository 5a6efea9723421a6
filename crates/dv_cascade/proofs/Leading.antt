-- The children that are found by walks over the relationships and over the children of each.
use Rattle.std.proofs.Common.{◌≡◌, refl, sym, ap, subst, ◌∙◌, ℕ, ◌+◌, ◌-◌, ◌^◌, ◌<◌, ◌≤◌, ◌⊎◌, inl, inr, Bool, true, false, cond, not, List, is_some, arith}
use Rattle.std.proofs.lemmas.Bool.{true≢false, lt-ltb, ltb-true, ltb-false}
use Rattle.std.proofs.lemmas.Option.{slice_get-map}
use Rattle.std.specs.Prelude.{Option, None, Some, nat_lt, slice_get, option_map}
use Rattle.std.specs.FinMap as map
use Rattle.dv_value.specs.declared.id.Id.{Id}
use Rattle.dv_schema.specs.declared.definition.Definition.{Definition}
use Rattle.dv_schema.specs.declared.relationship.Cascade.{Cascade}
use Rattle.dv_schema.specs.declared.relationship.Relationship.{Relationship}
use Rattle.dv_schema.specs.Definitions.{relationships_of}
use Rattle.dv_store.specs.declared.keys.RowKey.{RowKey}
use Rattle.dv_store.specs.declared.row.Row.{Row}
use Rattle.dv_store.specs.Keys.{row_key}
use Rattle.dv_store.specs.Shapes.{place_of, shape_of}
use Rattle.dv_store.specs.World.{World, names, is_there}
use Rattle.dv_store.specs.Cursors.{IsPast, IsNext, IsNextChild, IsChild}
use Rattle.dv_cascade.specs.declared.cascading.Cascading.{Cascading}
use Rattle.dv_cascade.specs.Links.{link_of, relationship_at, cascade_by, allows, reaches_any, Refers, LeadsBy, Leads}
use Rattle.dv_cascade.specs.Found.{Finds, IsAllowed}
use Rattle.dv_cascade.proofs.Finding.{nothing, said, both}

-- the children that a walk over those of a relationship has come to
pub record LeadsUpTo (w : World) (r : Relationship) (cascade : Cascade) (parent : RowKey) (last : Option Id) (key : RowKey) : Type 0 where
  pub leads : LeadsBy w r cascade parent key
  pub seen : IsPast last key.id → ⊥

-- a row that names another is there
pub named_there : (w : World) (key : RowKey) (place : ℕ) (id : Id) → names (map.get w.rows key) place id ≡ true → is_there w.rows key ≡ true
named_there w key place id is = of (map.get w.rows key) is
  where
    of : (row : Option Row) → names row place id ≡ true → is_some row ≡ true
    of None h = absurd (true≢false (sym h))
    of (Some row) h = refl

module _ (w : World) (r : Relationship) (number : ℕ) (cascade : Cascade) (parent : RowKey) (link : slice_get w.shape.links number ≡ Some (link_of r)) (table : parent.table ≡ r.parent) where
  abbrev Child : Id → Type 0
  Child id = names (map.get w.rows (row_key r.child id)) (place_of r.column) parent.id ≡ true

  pub next_child : (after result : Option Id) → IsNextChild w number parent.id after result → IsNext (λ id. names (map.get w.rows (row_key r.child id)) (place_of r.column) parent.id ≡ true) after result
  next_child after result next = subst (λ l. IsNext (IsChild w l parent.id) after result) link next

  child_is : (key : RowKey) → key.table ≡ r.child → key ≡ row_key r.child key.id
  child_is key e = λ j. record { table = e j; id = key.id }

  is_child : (key : RowKey) → Refers w r key parent → Child key.id
  is_child key h = subst (λ k. names (map.get w.rows k) (place_of r.column) parent.id ≡ true) (child_is key h.child_table) h.named

  pub children_begin : (found : List RowKey) → Finds w.rows (LeadsUpTo w r cascade parent None) found found
  children_begin found = nothing w.rows (LeadsUpTo w r cascade parent None) found (λ key h. h.seen tt)

  past_or : (last : Option Id) (id : Id) → IsPast last id ⊎ (IsPast last id → ⊥)
  past_or None id = inl tt
  past_or (Some last) id = of (nat_lt last.0 id.0) refl
    where
      of : (b : Bool) → nat_lt last.0 id.0 ≡ b → (last.0 < id.0) ⊎ ((last.0 < id.0) → ⊥)
      of true is = inl (ltb-true last.0 id.0 is)
      of false is = inr (λ l. omega (arith, l, ltb-false last.0 id.0 is))

  beyond : (last : Option Id) (key next : Id) → IsPast last next → next.0 < key.0 → IsPast last key
  beyond None key next p l = tt
  beyond (Some last) key next p l = omega (arith, p, l)

  pub children_more : (last : Option Id) (id : Id) (a b c : List RowKey) → Finds w.rows (LeadsUpTo w r cascade parent last) a b
      → IsNext (λ id. names (map.get w.rows (row_key r.child id)) (place_of r.column) parent.id ≡ true) last (Some id)
      → Finds w.rows (IsAllowed w cascade parent (row_key r.child id)) b c → Finds w.rows (LeadsUpTo w r cascade parent (Some id)) a c
  children_more last id a b c f next g = said w.rows (λ key. LeadsUpTo w r cascade parent last key ⊎ IsAllowed w cascade parent (row_key r.child id) key) (LeadsUpTo w r cascade parent (Some id)) a c to from (both w.rows (LeadsUpTo w r cascade parent last) (IsAllowed w cascade parent (row_key r.child id)) a b c f g)
    where
      this : LeadsBy w r cascade parent (row_key r.child id) ⊎ (allows w cascade parent (row_key r.child id) ≡ false) → (key : RowKey) → IsAllowed w cascade parent (row_key r.child id) key → LeadsUpTo w r cascade parent (Some id) (row_key r.child id)
      this (inl leads) key h = record { leads = leads; seen = λ l. omega (arith, l) }
      this (inr never) key h = absurd (true≢false (sym h.allowed ∙ never))

      to : (key : RowKey) → LeadsUpTo w r cascade parent last key ⊎ IsAllowed w cascade parent (row_key r.child id) key → LeadsUpTo w r cascade parent (Some id) key
      to key (inl h) = record { leads = h.leads; seen = λ l. h.seen (beyond last key.id id next.past l) }
      to key (inr h) = subst (λ k. LeadsUpTo w r cascade parent (Some id) k) (sym h.is)
          (this (inl (record { refers = record { child_table = refl; parent_table = table; named = next.there }; allowed = h.allowed })) key h)

      meets : (key : RowKey) → LeadsBy w r cascade parent key → key.id.0 ≡ id.0 → key ≡ row_key r.child id
      meets key leads e = λ j. record { table = leads.refers.child_table j; id = record { 0 = e j } }

      equal : (k n : ℕ) → ((n < k) → ⊥) → n ≤ k → k ≡ n
      equal k n not le = omega (arith, not, le)

      from : (key : RowKey) → LeadsUpTo w r cascade parent (Some id) key → LeadsUpTo w r cascade parent last key ⊎ IsAllowed w cascade parent (row_key r.child id) key
      from key h = of (past_or last key.id)
        where
          of : IsPast last key.id ⊎ (IsPast last key.id → ⊥) → LeadsUpTo w r cascade parent last key ⊎ IsAllowed w cascade parent (row_key r.child id) key
          of (inr seen) = inl (record { leads = h.leads; seen = seen })
          of (inl past) =
              let is : key ≡ row_key r.child id = meets key h.leads (equal key.id.0 id.0 h.seen (next.least key.id (is_child key h.leads.refers) past)) in
              inr (record { is = is; allowed = subst (λ k. allows w cascade parent k ≡ true) is h.leads.allowed })

  pub children_end : (last : Option Id) (a b : List RowKey) → Finds w.rows (LeadsUpTo w r cascade parent last) a b
      → IsNext (λ id. names (map.get w.rows (row_key r.child id)) (place_of r.column) parent.id ≡ true) last None → Finds w.rows (LeadsBy w r cascade parent) a b
  children_end last a b f next = said w.rows (LeadsUpTo w r cascade parent last) (LeadsBy w r cascade parent) a b (λ key h. h.leads) (λ key h. record { leads = h; seen = λ past. next key.id (is_child key h.refers) past }) f

-- a relationship leads to no child of another table's row, and to none that no cascade reaches
pub leads_any : (w : World) (cascade : Cascade) (parent child : RowKey) → allows w cascade parent child ≡ true → reaches_any cascade ≡ true
unfolding allows
leads_any w Cascade.Cascade parent child h = refl
leads_any w Cascade.Active parent child h = refl
leads_any w Cascade.UserOwned parent child h = refl
leads_any w Cascade.NoCascade parent child h = absurd (true≢false (sym h))
leads_any w Cascade.RemoveLink parent child h = absurd (true≢false (sym h))
leads_any w Cascade.Restrict parent child h = absurd (true≢false (sym h))

-- the children by the relationships that a walk has come to
pub record LeadsBelow (w : World) (d : Definition) (cascading : Cascading) (parent : RowKey) (last : ℕ) (key : RowKey) : Type 0 where
  pub number : ℕ
  pub below : number < last
  pub relationship : Relationship
  pub there : slice_get (relationships_of d) number ≡ Some relationship
  pub by : LeadsBy w relationship (cascade_by cascading relationship) parent key

pub link_there : (d : Definition) (w : World) (number : ℕ) (r : Relationship) → w.shape ≡ shape_of d → slice_get (relationships_of d) number ≡ Some r → slice_get w.shape.links number ≡ Some (link_of r)
unfolding shape_of
link_there d w number r shape there = ap (λ s. slice_get s.links number) shape ∙ slice_get-map link_of (relationships_of d) number ∙ ap (option_map link_of) there

-- what is read at a number, which is a place
pub read_at : (rs all : List Relationship) (place number : ℕ) (found : Option Relationship) → rs ≡ all → place ≡ number → found ≡ slice_get rs place → slice_get all number ≡ found
read_at rs all place number found same is e = sym (e ∙ ap (λ xs. slice_get xs place) same ∙ ap (slice_get all) is)

module _ (w : World) (d : Definition) (cascading : Cascading) (parent : RowKey) where
  pub relationships_begin : (found : List RowKey) → Finds w.rows (LeadsBelow w d cascading parent 0) found found
  relationships_begin found = nothing w.rows (LeadsBelow w d cascading parent 0) found (λ key h. never h.number h.below)
    where
      never : (n : ℕ) → n < 0 → ⊥
      never n l = omega (arith, l)

  same_relationship : (a b : Relationship) → Some a ≡ Some b → a ≡ b
  same_relationship a b e = cc

  pub relationships_more : (number next : ℕ) (r : Relationship) (a b c : List RowKey) → slice_get (relationships_of d) number ≡ Some r → next ≡ number + 1 → Finds w.rows (LeadsBelow w d cascading parent number) a b
      → Finds w.rows (LeadsBy w r (cascade_by cascading r) parent) b c → Finds w.rows (LeadsBelow w d cascading parent next) a c
  relationships_more number next r a b c there is f g = said w.rows (λ key. LeadsBelow w d cascading parent number key ⊎ LeadsBy w r (cascade_by cascading r) parent key) (LeadsBelow w d cascading parent next) a c to from (both w.rows (LeadsBelow w d cascading parent number) (LeadsBy w r (cascade_by cascading r) parent) a b c f g)
    where
      to : (key : RowKey) → LeadsBelow w d cascading parent number key ⊎ LeadsBy w r (cascade_by cascading r) parent key → LeadsBelow w d cascading parent next key
      to key (inl h) = record { number = h.number; below = omega (arith, h.below, is); relationship = h.relationship; there = h.there; by = h.by }
      to key (inr h) = record { number = number; below = omega (arith, is); relationship = r; there = there; by = h }

      below-or : (n m : ℕ) → n < next → (n < number) ⊎ (n ≡ number)
      below-or n m l = of (nat_lt n number) refl
        where
          of : (b : Bool) → nat_lt n number ≡ b → (n < number) ⊎ (n ≡ number)
          of true e = inl (ltb-true n number e)
          of false e = inr (omega (arith, l, is, ltb-false n number e))

      from : (key : RowKey) → LeadsBelow w d cascading parent next key → LeadsBelow w d cascading parent number key ⊎ LeadsBy w r (cascade_by cascading r) parent key
      from key h = of (below-or h.number 0 h.below)
        where
          of : (h.number < number) ⊎ (h.number ≡ number) → LeadsBelow w d cascading parent number key ⊎ LeadsBy w r (cascade_by cascading r) parent key
          of (inl below) = inl (record { number = h.number; below = below; relationship = h.relationship; there = h.there; by = h.by })
          of (inr same) = inr (subst (λ x. LeadsBy w x (cascade_by cascading x) parent key) (same_relationship h.relationship r (sym h.there ∙ ap (slice_get (relationships_of d)) same ∙ there)) h.by)

  pub at_number : (number : ℕ) (r : Relationship) → relationship_at d number ≡ Some r → (number < 65536) × (slice_get (relationships_of d) number ≡ Some r)
  at_number number r is = of (nat_lt number 65536) refl is
    where
      of : (b : Bool) → nat_lt number 65536 ≡ b → cond b (slice_get (relationships_of d) number) None ≡ Some r → (number < 65536) × (slice_get (relationships_of d) number ≡ Some r)
      of true e is = (ltb-true number 65536 e, is)
      of false e never = absurd (true≢false (sym (ap is_some never)))

  pub relationships_end : (last : ℕ) (a b : List RowKey) → last ≤ 65536 → ((number : ℕ) (r : Relationship) → number < 65536 → slice_get (relationships_of d) number ≡ Some r → number < last)
      → Finds w.rows (LeadsBelow w d cascading parent last) a b → Finds w.rows (Leads w d cascading parent) a b
  relationships_end last a b most within f = said w.rows (LeadsBelow w d cascading parent last) (Leads w d cascading parent) a b to from f
    where
      small : (number : ℕ) → number < last → nat_lt number 65536 ≡ true
      small number l = lt-ltb number 65536 (omega (arith, l, most))

      to : (key : RowKey) → LeadsBelow w d cascading parent last key → Leads w d cascading parent key
      to key h = record { number = h.number; relationship = h.relationship; there = ap (λ b. cond b (slice_get (relationships_of d) h.number) None) (small h.number h.below) ∙ h.there; by = h.by }

      from : (key : RowKey) → Leads w d cascading parent key → LeadsBelow w d cascading parent last key
      from key h = let is = at_number h.number h.relationship h.there in record { number = h.number; below = within h.number h.relationship is.0 is.1; relationship = h.relationship; there = is.1; by = h.by }

-- a number that falls as a walk over ids goes on
abbrev pub left_after : Option Id → ℕ
left_after None = 2 ^ 128 + 1
left_after (Some last) = 2 ^ 128 - last.0
