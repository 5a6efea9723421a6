-- Which lookups rows have after changes that put values in front of them, empty them, or remove rows.
use Rattle.std.proofs.Common.{◌≡◌, refl, sym, ap, subst, ◌∙◌, ℕ, zero, suc, ◌<◌, ◌≤◌, ◌⊎◌, inl, inr, Bool, true, false, cond, List, [], ◌∷◌, arith, is_some, nat_eq, eq-eqb, eqb-true, map, slice_get, slice_set}
use Rattle.std.proofs.lemmas.Bool.{true≢false}
use Rattle.std.specs.Prelude.{IsTrue, Option, None, Some}
use Rattle.std.specs.List.{AllByRecursion}
use Rattle.std.specs.FinMap as rows
use Rattle.std.specs.FinMap.{get-insert, get-remove}
use Rattle.dv_value.specs.declared.id.Id.{Id}
use Rattle.dv_value.specs.declared.value.Value.{Value}
use Rattle.dv_value.specs.declared.value.Value.TheVariants as value
use Rattle.dv_store.specs.declared.keys.RowKey.{RowKey}
use Rattle.dv_store.specs.declared.row.Row.{Row}
use Rattle.dv_store.specs.declared.shape.Shape.{Shape}
use Rattle.dv_store.specs.Keys.{is_row}
use Rattle.dv_store.specs.Rolled.{version_place}
use Rattle.dv_store.specs.Shapes.{is_owned}
use Rattle.dv_store.specs.World.{World, is_there, named_by, named_in, row_put, row_removed}
use Rattle.dv_cascade.specs.Chains.{is_among}
use Rattle.dv_cascade.proofs.Among.{row_total, itself, row_is, or-split}
use Rattle.dv_message.specs.Versions.{next_version}
use Rattle.dv_write.specs.declared.change.Change.{Change}
use Rattle.dv_write.specs.declared.change.Edit.{Edit}
use Rattle.dv_write.specs.declared.change.Edit.TheVariants.{Remove, Set}
use Rattle.dv_write.specs.declared.change.Placed.{Placed}
use Rattle.dv_write.specs.Effects.{applied, carrying, changed, edited, row_changed, with_values}
use Rattle.dv_write.proofs.Shapes.{applied_shape}

-- a value that is put in front of all lookups, or an empty one
abbrev pub IsMild : Placed → Type 0
IsMild q = (q.place < 5) ⊎ (q.value ≡ value.Empty)

abbrev pub IsMildEdit : Edit → Type 0
IsMildEdit Remove = Unit {0}
IsMildEdit (Set placed) = AllByRecursion IsMild placed

-- one of the values empties a place
abbrev pub Blanks : ℕ → List Placed → Type 0
Blanks p [] = ⊥
Blanks p (q ∷ qs) = ((q.place ≡ p) × (q.value ≡ value.Empty)) ⊎ Blanks p qs

abbrev pub BlanksBy : ℕ → Edit → Type 0
BlanksBy p Remove = Unit {0}
BlanksBy p (Set placed) = Blanks p placed

-- a change leaves a row there
abbrev pub SparesBy : RowKey → RowKey → Edit → Type 0
SparesBy key changed Remove = is_row key changed ≡ false
SparesBy key changed (Set placed) = Unit {0}

some_of : (o : Option Id) (id : Id) → o ≡ None → o ≡ Some id → ⊥
some_of o id none is = true≢false (sym (ap is_some (sym none ∙ is)))

pub none_of : (o : Option Id) → ((id : Id) → o ≡ Some id → ⊥) → o ≡ None
none_of None never = refl
none_of (Some id) never = absurd (never id refl)

set_other : (xs : List Value) (i j : ℕ) (y : Value) → (j ≡ i → ⊥) → slice_get (slice_set xs i y) j ≡ slice_get xs j
set_other [] i j y not = refl
set_other (x ∷ xs) zero zero y not = absurd (not refl)
set_other (x ∷ xs) zero (suc j) y not = refl
set_other (x ∷ xs) (suc i) zero y not = refl
set_other (x ∷ xs) (suc i) (suc j) y not = set_other xs i j y (λ e. not (ap suc e))

set_blank : (xs : List Value) (i : ℕ) → named_by (slice_get (slice_set xs i value.Empty) i) ≡ None
set_blank [] i = refl
set_blank (x ∷ xs) zero = refl
set_blank (x ∷ xs) (suc i) = set_blank xs i

one_kept : (xs : List Value) (i p : ℕ) (y : Value) → (i < p) ⊎ (y ≡ value.Empty) → (id : Id) → named_by (slice_get (slice_set xs i y) p) ≡ Some id → named_by (slice_get xs p) ≡ Some id
one_kept xs i p y (inl l) id h = ap named_by (sym (set_other xs i p y (apart p l))) ∙ h
  where
    apart : (p : ℕ) → i < p → p ≡ i → ⊥
    apart p l e = omega (arith, l, e)
one_kept xs i p y (inr e) id h = of (nat_eq p i) refl
  where
    differs : nat_eq p i ≡ false → p ≡ i → ⊥
    differs not same = true≢false (sym (eq-eqb p i same) ∙ not)

    of : (b : Bool) → nat_eq p i ≡ b → named_by (slice_get xs p) ≡ Some id
    of true same = absurd (some_of (named_by (slice_get (slice_set xs i y) p)) id (ap (λ j. named_by (slice_get (slice_set xs i y) j)) (eqb-true p i same) ∙ ap (λ z. named_by (slice_get (slice_set xs i z) i)) e ∙ set_blank xs i) h)
    of false not = ap named_by (sym (set_other xs i p y (differs not))) ∙ h

placed_kept : (placed : List Placed) (values : List Value) (p : ℕ) → 5 ≤ p → AllByRecursion IsMild placed → (id : Id) → named_by (slice_get (with_values values placed) p) ≡ Some id → named_by (slice_get values p) ≡ Some id
unfolding with_values
placed_kept [] values p far mild id h = h
placed_kept (q ∷ qs) values p far mild id h = one_kept values q.place p q.value (front mild.0) id (placed_kept qs (slice_set values q.place q.value) p far mild.1 id h)
  where
    before : (i p : ℕ) → i < 5 → 5 ≤ p → i < p
    before i p l far = omega (arith, l, far)

    front : IsMild q → (q.place < p) ⊎ (q.value ≡ value.Empty)
    front (inl l) = inl (before q.place p l far)
    front (inr e) = inr e

placed_blank : (placed : List Placed) (values : List Value) (p : ℕ) → 5 ≤ p → AllByRecursion IsMild placed → Blanks p placed → named_by (slice_get (with_values values placed) p) ≡ None
unfolding with_values
placed_blank [] values p far mild blank = absurd blank
placed_blank (q ∷ qs) values p far mild (inl blank) = none_of (named_by (slice_get (with_values (slice_set values q.place q.value) qs) p)) (λ id h. some_of (named_by (slice_get (slice_set values q.place q.value) p)) id empty (placed_kept qs (slice_set values q.place q.value) p far mild.1 id h))
  where
    empty : named_by (slice_get (slice_set values q.place q.value) p) ≡ None
    empty = ap (λ j. named_by (slice_get (slice_set values q.place q.value) j)) (sym blank.0) ∙ ap (λ z. named_by (slice_get (slice_set values q.place z) q.place)) blank.1 ∙ set_blank values q.place
placed_blank (q ∷ qs) values p far mild (inr later) = placed_blank qs (slice_set values q.place q.value) p far mild.1 later

module _ (shape : Shape) (key : RowKey) (p : ℕ) (far : 5 ≤ p) (behind : version_place (is_owned shape key.table) < p) where
  -- what a row that is put anew names there
  renewed : (w : World) (version : ℕ) (placed : List Placed) (row : Row) → w.shape ≡ shape → AllByRecursion IsMild placed → (id : Id) → named_in (Some (carrying w key version (edited placed row))) p ≡ Some id
      → named_by (slice_get (with_values row.values placed) p) ≡ Some id
  renewed w version placed row shape-is mild id h = one_kept (with_values row.values placed) (version_place (is_owned w.shape key.table)) p _ (inl (subst (λ s. version_place (is_owned s key.table) < p) (sym shape-is) behind)) id h

  row_kept : (w : World) (k : RowKey) (edit : Edit) (o : Option Row) → o ≡ rows.get w.rows k → w.shape ≡ shape → IsMildEdit edit → (id : Id) → named_in (rows.get (row_changed w k edit o).rows key) p ≡ Some id → named_in (rows.get w.rows key) p ≡ Some id
  unfolding row_changed row_put row_removed
  row_kept w k edit None o-is shape-is mild id h = h
  row_kept w k (Set placed) (Some row) o-is shape-is mild id h = of (is_row key k) refl (ap (λ found. named_in found p) (sym (get-insert row_total w.rows k (carrying w k (next_version w) (edited placed row)) key)) ∙ h)
    where
      of : (b : Bool) → is_row key k ≡ b → named_in (cond b (Some (carrying w k (next_version w) (edited placed row))) (rows.get w.rows key)) p ≡ Some id → named_in (rows.get w.rows key) p ≡ Some id
      of true same h =
          let e = row_is key k same in
          ap (λ found. named_in found p) (ap (rows.get w.rows) e ∙ sym o-is)
          ∙ placed_kept placed row.values p far mild id (renewed w (next_version w) placed row shape-is mild id (subst (λ x. named_in (Some (carrying w x (next_version w) (edited placed row))) p ≡ Some id) (sym e) h))
      of false not h = h
  row_kept w k Remove (Some row) o-is shape-is mild id h = of (is_row key k) refl (ap (λ found. named_in found p) (sym (get-remove row_total w.rows k key)) ∙ h)
    where
      of : (b : Bool) → is_row key k ≡ b → named_in (cond b None (rows.get w.rows key)) p ≡ Some id → named_in (rows.get w.rows key) p ≡ Some id
      of true same h = absurd (some_of None id refl h)
      of false not h = h

  row_blank : (w : World) (edit : Edit) (o : Option Row) → o ≡ rows.get w.rows key → w.shape ≡ shape → IsMildEdit edit → BlanksBy p edit → named_in (rows.get (row_changed w key edit o).rows key) p ≡ None
  unfolding row_changed row_put row_removed
  row_blank w edit None o-is shape-is mild blank = ap (λ found. named_in found p) (sym o-is)
  row_blank w (Set placed) (Some row) o-is shape-is mild blank =
      ap (λ found. named_in found p) (get-insert row_total w.rows key (carrying w key (next_version w) (edited placed row)) key ∙ ap (λ b. cond b (Some (carrying w key (next_version w) (edited placed row))) (rows.get w.rows key)) (itself key))
      ∙ none_of (named_in (Some (carrying w key (next_version w) (edited placed row))) p) (λ id h. some_of (named_by (slice_get (with_values row.values placed) p)) id (placed_blank placed row.values p far mild blank) (renewed w (next_version w) placed row shape-is mild id h))
  row_blank w Remove (Some row) o-is shape-is mild blank = ap (λ found. named_in found p) (get-remove row_total w.rows key key ∙ ap (λ b. cond b None (rows.get w.rows key)) (itself key))

  one_shape : (c : Change) (w : World) → (changed w c).shape ≡ w.shape
  unfolding applied
  one_shape c w = applied_shape (c ∷ []) w

  -- no change names a row anew
  pub applied_kept : (cs : List Change) (w : World) → w.shape ≡ shape → AllByRecursion (λ c. IsMildEdit c.edit) cs → (id : Id) → named_in (rows.get (applied cs w).rows key) p ≡ Some id → named_in (rows.get w.rows key) p ≡ Some id
  unfolding applied
  applied_kept [] w shape-is mild id h = h
  applied_kept (c ∷ cs) w shape-is mild id h = row_kept w c.key c.edit (rows.get w.rows c.key) refl shape-is mild.0 id (applied_kept cs (changed w c) (one_shape c w ∙ shape-is) mild.1 id h)

  -- where the row of a key loses a lookup it has lost it in the end
  pub applied_blank : (edit_of : RowKey → Edit) (keys : List RowKey) (w : World) → w.shape ≡ shape → ((k : RowKey) → IsMildEdit (edit_of k)) → BlanksBy p (edit_of key) → IsTrue (is_among keys key)
      → named_in (rows.get (applied (map (λ k. record { key = k; edit = edit_of k }) keys) w).rows key) p ≡ None
  unfolding applied
  applied_blank edit_of [] w shape-is mild blank among = absurd (true≢false (sym among))
  applied_blank edit_of (k ∷ ks) w shape-is mild blank among = of (or-split (is_row key k) (is_among ks key) among) (applied_blank edit_of ks (changed w this) (one_shape this w ∙ shape-is) mild blank)
    where
      this : Change
      this = record { key = k; edit = edit_of k }

      rest : List Change
      rest = map (λ k. record { key = k; edit = edit_of k }) ks

      all : (ks : List RowKey) → AllByRecursion (λ (c : Change). IsMildEdit c.edit) (map (λ k. record { key = k; edit = edit_of k }) ks)
      all [] = tt
      all (k ∷ ks) = (mild k, all ks)

      empty : key ≡ k → named_in (rows.get (changed w this).rows key) p ≡ None
      empty e = subst (λ x. named_in (rows.get (changed w (record { key = x; edit = edit_of x })).rows key) p ≡ None) e (row_blank w (edit_of key) (rows.get w.rows key) refl shape-is (mild key) blank)

      of : IsTrue (is_row key k) ⊎ IsTrue (is_among ks key) → (IsTrue (is_among ks key) → named_in (rows.get (applied rest (changed w this)).rows key) p ≡ None) → named_in (rows.get (applied rest (changed w this)).rows key) p ≡ None
      of (inl is) later = none_of (named_in (rows.get (applied rest (changed w this)).rows key) p) (λ id h. some_of (named_in (rows.get (changed w this).rows key) p) id (empty (row_is key k is)) (applied_kept rest (changed w this) (one_shape this w ∙ shape-is) (all ks) id h))
      of (inr there) later = later there

module _ (key : RowKey) where
  row_there : (w : World) (k : RowKey) (edit : Edit) (o : Option Row) → SparesBy key k edit → is_there w.rows key ≡ true → is_there (row_changed w k edit o).rows key ≡ true
  unfolding row_changed row_put row_removed
  row_there w k edit None spares there = there
  row_there w k (Set placed) (Some row) spares there = ap is_some (get-insert row_total w.rows k (carrying w k (next_version w) (edited placed row)) key) ∙ either (is_row key k) (rows.get w.rows key) there
    where
      either : (b : Bool) (found : Option Row) → is_some found ≡ true → is_some (cond b (Some (carrying w k (next_version w) (edited placed row))) found) ≡ true
      either true found there = refl
      either false found there = there
  row_there w k Remove (Some row) spares there = ap is_some (get-remove row_total w.rows k key ∙ ap (λ b. cond b None (rows.get w.rows key)) spares) ∙ there

  -- a row that no change removes stays there
  pub applied_there : (cs : List Change) (w : World) → AllByRecursion (λ c. SparesBy key c.key c.edit) cs → is_there w.rows key ≡ true → is_there (applied cs w).rows key ≡ true
  unfolding applied
  applied_there [] w spares there = there
  applied_there (c ∷ cs) w spares there = applied_there cs (changed w c) spares.1 (row_there w c.key c.edit (rows.get w.rows c.key) spares.0 there)
