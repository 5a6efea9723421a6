-- Sorted and without repeats, a list has the same ids, ascending, each once.
use Rattle.std.proofs.Common.{rules, ◌≡◌, refl, sym, ap, subst, ◌∙◌, ℕ, suc, ◌+◌, ◌≤◌, ◌<◌, Bool, true, false, cond, List, [], ◌∷◌, arith}
use Rattle.std.proofs.lemmas.Bool.{eqb-true, eqb-false}
use Rattle.std.proofs.lemmas.List.Filters.{dedup_is}
use Rattle.std.proofs.lemmas.List.Sorted.{list_any-IsPermutation}
use Rattle.std.specs.Prelude.{⊤, IsTrue, IsPermutation, ◌==◌, ◌||◌, slice_index_or}
use Rattle.std.specs.List.{list_any, AllByRecursion, dedup, dedup_from}
use Rattle.std.specs.List.Retain.{IsFiltered, DiffersFromLast}
use Rattle.std.specs.List.Sorted.{IsSorted, IsStrictlySortedBy}
use Rattle.std.specs.declared.cmp.Ordering.TheVariants.{Less}
use Rattle.std.specs.Ordering.{nat_cmp, is_lt}
use Rattle.dv_value.specs.declared.id.Id.{Id}
use Rattle.dv_access.specs.View.{is_among, AreExactly}

-- whether two ids are one
abbrev pub same : Id → Id → Bool
same a b = a.0 == b.0

-- each id is at least as great as the one before
abbrev Rises : List Id → Type 0
Rises [] = ⊤
Rises (x ∷ []) = ⊤
Rises (x ∷ y ∷ ys) = (x.0 ≤ y.0) × Rises (y ∷ ys)

rises : (ids : List Id) → IsSorted (λ (a b : Id). nat_cmp a.0 b.0) ids → Rises ids
rises [] h = tt
rises (x ∷ []) h = tt
rises (x ∷ y ∷ ys) h = (le x.0 y.0 (h 0 x (omega arith) (omega arith)), rises (y ∷ ys) (λ k d lo hi. next (y ∷ ys) k d (h (suc k) d (omega arith) (omega (arith, hi)))))
  where
    next : (ids : List Id) (k : ℕ) (d : Id) → is_lt (nat_cmp (slice_index_or (x ∷ ids) (suc k + 1) d).0 (slice_index_or ids k d).0) ≡ false → is_lt (nat_cmp (slice_index_or ids (k + 1) d).0 (slice_index_or ids k d).0) ≡ false
    next ids k d h = subst (λ n. is_lt (nat_cmp (slice_index_or (x ∷ ids) n d).0 (slice_index_or ids k d).0) ≡ false) (shift k) h
      where
        shift : (k : ℕ) → suc k + 1 ≡ suc (k + 1)
        shift k = omega arith

    le : (a b : ℕ) → is_lt (nat_cmp b a) ≡ false → a ≤ b
    le a b h = search rules

-- what stays is what was there
kept : (id first : Id) (ids : List Id) → list_any (λ x. id.0 == x.0) (dedup_from same first ids) ≡ list_any (λ x. id.0 == x.0) (first ∷ ids)
kept id first [] = refl
kept id first (x ∷ ids) = of (kept id first ids) (kept id x ids) (same x first) refl
  where
    of : (list_any (λ y. id.0 == y.0) (dedup_from same first ids) ≡ list_any (λ y. id.0 == y.0) (first ∷ ids)) → (list_any (λ y. id.0 == y.0) (dedup_from same x ids) ≡ list_any (λ y. id.0 == y.0) (x ∷ ids)) → (b : Bool) → same x first ≡ b → list_any (λ y. id.0 == y.0) (cond b (dedup_from same first ids) (first ∷ dedup_from same x ids)) ≡ ((id.0 == first.0) || ((id.0 == x.0) || list_any (λ y. id.0 == y.0) ids))
    of f g true is = f ∙ twice (id.0 == first.0) (list_any (λ y. id.0 == y.0) ids) ∙ ap (λ n. (id.0 == first.0) || ((id.0 == n) || list_any (λ y. id.0 == y.0) ids)) (sym (eqb-true x.0 first.0 is))
      where
        twice : (a r : Bool) → (a || r) ≡ (a || (a || r))
        twice true r = refl
        twice false r = refl
    of f g false is = ap (λ b. (id.0 == first.0) || b) g

-- ids that are above another
abbrev Above : Id → List Id → Type 0
Above low ids = AllByRecursion (λ y. nat_cmp low.0 y.0 ≡ Less) ids

less : (a b : ℕ) → a < b → nat_cmp a b ≡ Less
less a b l = search rules

-- the first may be left out before one that is as great
skip : (first x : Id) (ids : List Id) → first.0 ≤ x.0 → Rises (x ∷ ids) → Rises (first ∷ ids)
skip first x [] le r = tt
skip first x (y ∷ ys) le r = (omega (arith, le, r.0), r.1)

-- what stays lies above whatever lies below the first
above : (low first : Id) (ids : List Id) → low.0 < first.0 → Rises (first ∷ ids) → Above low (dedup_from same first ids)
above low first [] l r = (less low.0 first.0 l, tt)
above low first (x ∷ ids) l r = of (above low first ids l (skip first x ids r.0 r.1)) (above low x ids (omega (arith, l, r.0)) r.1) (same x first)
  where
    of : Above low (dedup_from same first ids) → Above low (dedup_from same x ids) → (b : Bool) → Above low (cond b (dedup_from same first ids) (first ∷ dedup_from same x ids))
    of f g true = f
    of f g false = (less low.0 first.0 l, g)

-- ids that ascend
abbrev Climbs : List Id → Type 0
Climbs ids = IsStrictlySortedBy (λ (a b : Id). nat_cmp a.0 b.0) ids

ascends : (first : Id) (ids : List Id) → Rises (first ∷ ids) → Climbs (dedup_from same first ids)
unfolding IsStrictlySortedBy
ascends first [] r = (tt, tt)
ascends first (x ∷ ids) r = of (ascends first ids (skip first x ids r.0 r.1)) (ascends x ids r.1) (same x first) refl
  where
    strict : (a b : ℕ) → a ≤ b → ((b ≡ a) → ⊥) → a < b
    strict a b le ne = omega (arith, le, ne)

    of : Climbs (dedup_from same first ids) → Climbs (dedup_from same x ids) → (b : Bool) → same x first ≡ b → Climbs (cond b (dedup_from same first ids) (first ∷ dedup_from same x ids))
    of f g true is = f
    of f g false is = (above first x ids (strict first.0 x.0 r.0 (eqb-false x.0 first.0 is)) r.1, g)

pub sorted : (old mid new : List Id) → IsPermutation old mid → IsSorted (λ (a b : Id). nat_cmp a.0 b.0) mid → IsFiltered (DiffersFromLast same) [] mid new → AreExactly (λ id. IsTrue (is_among old id)) new
unfolding IsStrictlySortedBy
sorted old mid new perm asc filtered = of mid (λ id. list_any-IsPermutation (λ x. id.0 == x.0) old mid perm) (rises mid asc) (dedup_is same mid new filtered)
  where
    of : (mid : List Id) → ((id : Id) → is_among old id ≡ is_among mid id) → Rises mid → new ≡ dedup same mid → AreExactly (λ id. IsTrue (is_among old id)) new
    of [] has r is = rw is (record { ascending = tt; exactly = λ id. (λ h. has id ∙ h, λ h. sym (has id) ∙ h) })
    of (x ∷ xs) has r is = rw is (record { ascending = ascends x xs r; exactly = λ id. (λ h. has id ∙ sym (kept id x xs) ∙ h, λ h. kept id x xs ∙ sym (has id) ∙ h) })
