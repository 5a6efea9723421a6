-- The steps of a list of distinct integers.
use Rattle.std.proofs.Common.{◌≡◌, ◌∙◌, refl, ap, ℕ, ℤ, ◌+◌, ◌||◌, Bool, true, false, not, List, [], ◌∷◌, length, Some, None, add-one}
use Rattle.std.specs.BTreeSet.{BTreeSet, contains}
use Rattle.std.specs.Ordering.{int_cmp, int_eq}
use Rattle.serde_json.specs.Data.{Data, no_items}
use Rattle.serde_json.specs.View.{view, items_view}
use Rattle.serde_json.specs.declared.value.Value.{Value}
use Rattle.dv_form.specs.Integers.{AreIn}
use Rattle.dv_form.specs.Members.{integer_in, is_short}
use Rattle.dv_form.specs.Places.{into_item}
use Rattle.dv_form.specs.Spellings.{is_integer}
use Rattle.dv_form.specs.Walk.{inside, here, is_new_integer, new_integers_fault, distinct_fault}
use Rattle.dv_form.specs.declared.fault.FaultKind.TheVariants.{Wrong}

pub new_none : (earlier : List Data) (d : Data) → integer_in d ≡ None → false ≡ is_new_integer earlier d
unfolding is_new_integer
new_none earlier d e = rw e refl

pub new_long : (earlier : List Data) (d : Data) (n : ℤ) → integer_in d ≡ Some n → is_short n ≡ false → false ≡ is_new_integer earlier d
unfolding is_new_integer
new_long earlier d n e s = rw (e, s) refl

pub new_short : (earlier : List Data) (d : Data) (n : ℤ) (set : BTreeSet ℤ) (r : Bool) → integer_in d ≡ Some n → is_short n ≡ true → AreIn set earlier → r ≡ not (contains int_cmp set n) → r ≡ is_new_integer earlier d
unfolding is_new_integer
new_short earlier d n set r e s known q = q ∙ rw (e, s) (ap not (known n))

pub in_more : (earlier : List Data) (d : Data) (n : ℤ) (old new : BTreeSet ℤ) → integer_in d ≡ Some n → AreIn old earlier → ((m : ℤ) → contains int_cmp new m ≡ (int_eq n m || contains int_cmp old m)) → AreIn new (d ∷ earlier)
unfolding is_integer
in_more earlier d n old new e known q = λ m. q m ∙ rw (e, known m) refl

pub integer_here : (earlier : List Data) (i : ℕ) (v : Value) (vs : List Value) → is_new_integer earlier (view v) ≡ false → new_integers_fault earlier i (items_view (v ∷ vs)) ≡ Some (inside (into_item i) (here Wrong))
unfolding new_integers_fault
integer_here earlier i v vs e = rw e refl

pub integer_later : (earlier : List Data) (i : ℕ) (v : Value) (vs : List Value) → is_new_integer earlier (view v) ≡ true → new_integers_fault earlier i (items_view (v ∷ vs)) ≡ new_integers_fault (view v ∷ earlier) (i + 1) (items_view vs)
unfolding new_integers_fault
integer_later earlier i v vs e = rw (e, add-one) refl

pub integers_end : (earlier : List Data) (i : ℕ) → new_integers_fault earlier i no_items ≡ None
unfolding new_integers_fault
integers_end earlier i = refl

pub distinct_none : (vs : List Value) → vs ≡ [] → distinct_fault (items_view vs) ≡ Some (here Wrong)
unfolding distinct_fault
distinct_none [] e = refl
distinct_none (v ∷ vs) e = absurd (cc)

pub distinct_some : (vs : List Value) → (vs ≡ [] → ⊥) → new_integers_fault [] 0 (items_view vs) ≡ distinct_fault (items_view vs)
unfolding distinct_fault
distinct_some [] e = absurd (e refl)
distinct_some (v ∷ vs) e = refl

pub length_zero : (vs : List Value) → (length vs ≡ 0 → ⊥) → vs ≡ [] → ⊥
length_zero vs h e = h (ap length e)
