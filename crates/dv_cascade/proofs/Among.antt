-- Whether a list has a row.
use Rattle.std.proofs.Common.{◌≡◌, refl, sym, ap, subst, ◌∙◌, ℕ, zero, suc, ◌<◌, ◌⊎◌, inl, inr, Bool, true, false, List, [], ◌∷◌, ◌++◌, length, is_some, arith}
use Rattle.std.proofs.lemmas.Bool.{true≢false}
use Rattle.std.proofs.lemmas.List.Folds.{list_any-append}
use Rattle.std.specs.Prelude.{IsTrue, ◌||◌, None, Some, slice_get}
use Rattle.std.specs.Cmp.{IsTotalOrder, Equal-is, tied_itself}
use Rattle.std.specs.Ordering.{is_eq}
use Rattle.dv_store.specs.declared.keys.RowKey.{RowKey}
use Rattle.dv_store.specs.contracts.keys.RowKeyOrd.TheImpl.Laws.{total-law}
use Rattle.dv_store.specs.Keys.{row_cmp, is_row}
use Rattle.dv_store.specs.Exact.{exact_row}
use Rattle.dv_cascade.specs.Chains.{is_among}

pub row_total : IsTotalOrder row_cmp
row_total = total-law

pub itself : (key : RowKey) → is_row key key ≡ true
itself key = ap is_eq (tied_itself row_total key)

pub row_is : (a b : RowKey) → is_row a b ≡ true → a ≡ b
row_is a b e = exact_row a b ((Equal-is (row_cmp a b)).0 e)

pub apart : (a b : RowKey) → is_row a b ≡ false → a ≡ b → ⊥
apart a b not e = true≢false (sym (itself a) ∙ ap (is_row a) e ∙ not)

pub or-left : (a b : Bool) → IsTrue a → IsTrue (a || b)
or-left true b h = refl
or-left false b h = absurd (true≢false (sym h))

pub or-right : (a b : Bool) → IsTrue b → IsTrue (a || b)
or-right true b h = refl
or-right false b h = h

pub or-split : (a b : Bool) → IsTrue (a || b) → IsTrue a ⊎ IsTrue b
or-split true b h = inl refl
or-split false b h = inr h

-- a list that goes on has what it had
pub among-longer : (old later new : List RowKey) (key : RowKey) → new ≡ old ++ later → IsTrue (is_among old key) → IsTrue (is_among new key)
among-longer old later new key e h = ap (λ rows. is_among rows key) e ∙ list_any-append (is_row key) old later ∙ or-left (is_among old key) (is_among later key) h

pub among-last : (old : List RowKey) (key : RowKey) → IsTrue (is_among (old ++ key ∷ []) key)
among-last old key = list_any-append (is_row key) old (key ∷ []) ∙ or-right (is_among old key) (is_among (key ∷ []) key) (or-left (is_row key key) false (itself key))

pub among-one : (only key : RowKey) → IsTrue (is_among (only ∷ []) key) → key ≡ only
among-one only key h = of (or-split (is_row key only) false h)
  where
    of : IsTrue (is_row key only) ⊎ IsTrue false → key ≡ only
    of (inl is) = row_is key only is
    of (inr never) = absurd (true≢false (sym never))

pub among-push : (old : List RowKey) (last key : RowKey) → IsTrue (is_among (old ++ last ∷ []) key) → IsTrue (is_among old key) ⊎ (key ≡ last)
among-push old last key h = of (or-split (is_among old key) (is_among (last ∷ []) key) (sym (list_any-append (is_row key) old (last ∷ [])) ∙ h))
  where
    of : IsTrue (is_among old key) ⊎ IsTrue (is_among (last ∷ []) key) → IsTrue (is_among old key) ⊎ (key ≡ last)
    of (inl there) = inl there
    of (inr is) = inr (among-one last key is)

-- the place at which a list has a row
pub among-place : (rows : List RowKey) (key : RowKey) → IsTrue (is_among rows key) → (i : ℕ) × (slice_get rows i ≡ Some key)
among-place [] key h = absurd (true≢false (sym h))
among-place (row ∷ rows) key h = of (or-split (is_row key row) (is_among rows key) h) (λ there. among-place rows key there)
  where
    of : IsTrue (is_row key row) ⊎ IsTrue (is_among rows key) → (IsTrue (is_among rows key) → (i : ℕ) × (slice_get rows i ≡ Some key)) → (i : ℕ) × (slice_get (row ∷ rows) i ≡ Some key)
    of (inl is) later = (0, ap Some (sym (row_is key row is)))
    of (inr there) later = let place = later there in (suc place.0, place.1)

pub among-at : (rows : List RowKey) (i : ℕ) (key : RowKey) → slice_get rows i ≡ Some key → IsTrue (is_among rows key)
among-at [] i key is = absurd (true≢false (sym (ap is_some is)))
among-at (row ∷ rows) zero key is = or-left (is_row key row) (is_among rows key) (subst (λ (k : RowKey). is_row key k ≡ true) (sym (same row key is)) (itself key))
  where
    same : (a b : RowKey) → Some a ≡ Some b → a ≡ b
    same a b e = cc
among-at (row ∷ rows) (suc i) key is = or-right (is_row key row) (is_among rows key) (among-at rows i key is)

-- what stands at a place stays there
pub at-longer : (old later new : List RowKey) (i : ℕ) → new ≡ old ++ later → i < length old → slice_get new i ≡ slice_get old i
at-longer old later new i e l = ap (λ rows. slice_get rows i) e ∙ front old i l
  where
    front : (old : List RowKey) (i : ℕ) → i < length old → slice_get (old ++ later) i ≡ slice_get old i
    front [] i l = absurd (omega (arith, l))
    front (x ∷ xs) zero l = refl
    front (x ∷ xs) (suc i) l = front xs i (omega (arith, l))

pub at-past : {X : Type 0} (xs : List X) (i j : ℕ) (x : X) → slice_get xs i ≡ None → slice_get xs j ≡ Some x → j < i
at-past [] i j x past there = absurd (true≢false (sym (ap is_some there)))
at-past (y ∷ ys) zero j x past there = absurd (true≢false (ap is_some past))
at-past (y ∷ ys) (suc i) zero x past there = omega arith
at-past (y ∷ ys) (suc i) (suc j) x past there = let l : j < i = at-past ys i j x past there in omega (arith, l)
