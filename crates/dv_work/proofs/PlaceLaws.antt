-- Places, some of them empty: undoing a change to one, and the entries in them.
use Rattle.std.proofs.Common.{◌≡◌, List, [], ◌∷◌, refl, sym, ap, ◌∙◌}
use Rattle.std.specs.Prelude.{Option, None, Some, cond, Bool, true, false, ◌&&◌, slice_get}
use Rattle.std.specs.declared.cmp.Ordering.{Ordering}
use Rattle.std.specs.declared.cmp.Ordering.TheVariants.{Less, Equal, Greater}
use Rattle.std.specs.Ordering.{is_eq}
use Rattle.std.specs.BTreeMap.Range.{is_from_start, entries_between}
use Rattle.std.specs.declared.ops.Bound.{Bound}
use Rattle.std.specs.declared.ops.Bound.TheVariants.{Unbounded}
use Rattle.std.specs.Cmp.{IsTotalOrder, tied_itself}
use Rattle.std.specs.List.Sorted.{IsStrictlySortedBy}
use Rattle.std.specs.Map.{keys_of, lookup, remove_entry}
use Rattle.std.specs.BTreeMap.{insert_entry, is_at}
use Rattle.std.proofs.lemmas.Map.Lookups.{CmpEqualImpliesEq}
use Rattle.dv_work.specs.Entries.{first_from}
use Rattle.dv_work.specs.Journal.{with_old_place, entries_of, value_in, with_entry}
use Rattle.dv_work.proofs.EntryLaws.{Below, below_past, below_tied, value_at-below, with_value-below, without_key-below}

-- an empty place dropped
pub entries_of-drop_empty : {K V : Type 0} (test : K → Bool) (ps : List (K × Option V)) → lookup test ps ≡ Some None → entries_of (remove_entry test ps) ≡ entries_of ps
entries_of-drop_empty test [] h = refl
entries_of-drop_empty test (p ∷ ps) h =
    elim (test p.0) as (λ b. cond b (Some p.1) (lookup test ps) ≡ Some None → entries_of (cond b ps (p ∷ remove_entry test ps)) ≡ with_entry p.0 p.1 (entries_of ps)) [
      | true ↦ λ h. rw (ap value_in h) refl
      | false ↦ λ h. ap (with_entry p.0 p.1) (entries_of-drop_empty test ps h)
    ] h

module _ {K V : Type 0} (R : K → K → Ordering) where
  -- past a key that comes before, an old place goes back further on
  pub with_old_place-past : (k : K) (b : Option (Option V)) (p : K × Option V) (ps : List (K × Option V)) → R k p.0 ≡ Greater → with_old_place R k b (p ∷ ps) ≡ p ∷ with_old_place R k b ps
  with_old_place-past k None p ps h = rw h refl
  with_old_place-past k (Some place) p ps h = rw h refl

  -- the keys of the entries are among those of the places
  pub below-with_entry : (k x : K) (place : Option V) (es : List (K × V)) → R k x ≡ Less → Below R k (keys_of es) → Below R k (keys_of (with_entry x place es))
  below-with_entry k x None es lt h = h
  below-with_entry k x (Some v) es lt h = (lt, h)

  pub below-entries_of : (k : K) (ps : List (K × Option V)) → Below R k (keys_of ps) → Below R k (keys_of (entries_of ps))
  below-entries_of k [] h = tt
  below-entries_of k (p ∷ ps) h = below-with_entry k p.0 p.1 (entries_of ps) h.0 (below-entries_of k ps h.1)

  -- and in their order
  Ascends-with_entry : (k : K) (place : Option V) (es : List (K × V)) → Below R k (keys_of es) → IsStrictlySortedBy R (keys_of es) → IsStrictlySortedBy R (keys_of (with_entry k place es))
  unfolding IsStrictlySortedBy
  Ascends-with_entry k None es below s = s
  Ascends-with_entry k (Some v) es below s = (below, s)

  pub Ascends-entries_of : (ps : List (K × Option V)) → IsStrictlySortedBy R (keys_of ps) → IsStrictlySortedBy R (keys_of (entries_of ps))
  unfolding IsStrictlySortedBy
  Ascends-entries_of [] s = tt
  Ascends-entries_of (p ∷ ps) s = Ascends-with_entry p.0 p.1 (entries_of ps) (below-entries_of p.0 ps s.0) (Ascends-entries_of ps s.1)

module _ {K V : Type 0} {R : K → K → Ordering} (o : IsTotalOrder R) where
  -- what a key had, put back after another place was put there, brings the old places back
  pub with_old_place-with_value : (k : K) (place : Option V) (ps : List (K × Option V)) → IsStrictlySortedBy R (keys_of ps) → with_old_place R k (lookup (is_at (R k)) ps) (insert_entry R ps k place) ≡ ps
  unfolding IsStrictlySortedBy
  with_old_place-with_value k place [] s = rw (tied_itself o k) refl
  with_old_place-with_value k place (p ∷ ps) s =
      elim (R k p.0) as (λ r. R k p.0 ≡ r → with_old_place R k (lookup (is_at (R k)) (p ∷ ps)) (insert_entry R (p ∷ ps) k place) ≡ p ∷ ps) [
        | Less ↦ λ h. rw (h, value_at-below R k ps (below_past o k p.0 (keys_of ps) h s.0), tied_itself o k) refl
        | Equal ↦ λ h. rw (h, h) refl
        | Greater ↦ λ h. rw h (with_old_place-past R k (lookup (is_at (R k)) ps) p (insert_entry R ps k place) h ∙ ap (λ rest. p ∷ rest) (with_old_place-with_value k place ps s.1))
      ] refl

  -- a value put in a place: at the place, and past it
  put_at : CmpEqualImpliesEq R → (k x : K) (v : V) (place : Option V) (es : List (K × V)) → R k x ≡ Equal → Below R x (keys_of es) → (x, v) ∷ es ≡ insert_entry R (with_entry x place es) k v
  put_at exact k x v None es h below = rw (with_value-below R k v es (below_tied o k x (keys_of es) h below), exact k x h) refl
  put_at exact k x v (Some u) es h below = rw h refl

  put_past : (k x : K) (v : V) (place : Option V) (es : List (K × V)) → R k x ≡ Greater → with_entry x place (insert_entry R es k v) ≡ insert_entry R (with_entry x place es) k v
  put_past k x v None es h = refl
  put_past k x v (Some u) es h = rw h refl

  pub entries_of-put : CmpEqualImpliesEq R → (k : K) (v : V) (ps : List (K × Option V)) → IsStrictlySortedBy R (keys_of ps) → entries_of (insert_entry R ps k (Some v)) ≡ insert_entry R (entries_of ps) k v
  unfolding IsStrictlySortedBy
  entries_of-put exact k v [] s = refl
  entries_of-put exact k v (p ∷ ps) s =
      elim (R k p.0) as (λ r. R k p.0 ≡ r → entries_of (insert_entry R (p ∷ ps) k (Some v)) ≡ insert_entry R (with_entry p.0 p.1 (entries_of ps)) k v) [
        | Less ↦ λ h. rw h (sym (with_value-below R k v (with_entry p.0 p.1 (entries_of ps)) (below-with_entry R k p.0 p.1 (entries_of ps) h (below-entries_of R k ps (below_past o k p.0 (keys_of ps) h s.0)))))
        | Equal ↦ λ h. rw h (put_at exact k p.0 v p.1 (entries_of ps) h (below-entries_of R p.0 ps s.0))
        | Greater ↦ λ h. rw h (ap (with_entry p.0 p.1) (entries_of-put exact k v ps s.1) ∙ put_past k p.0 v p.1 (entries_of ps) h)
      ] refl

  -- a place emptied: at the place, and past it
  take_at : (k x : K) (place : Option V) (es : List (K × V)) → R k x ≡ Equal → Below R x (keys_of es) → es ≡ remove_entry (is_at (R k)) (with_entry x place es)
  take_at k x None es h below = sym (without_key-below R k es (below_tied o k x (keys_of es) h below))
  take_at k x (Some u) es h below = rw h refl

  take_past : (k x : K) (place : Option V) (es : List (K × V)) → R k x ≡ Greater → with_entry x place (remove_entry (is_at (R k)) es) ≡ remove_entry (is_at (R k)) (with_entry x place es)
  take_past k x None es h = refl
  take_past k x (Some u) es h = rw h refl

  pub entries_of-take : (k : K) (ps : List (K × Option V)) → IsStrictlySortedBy R (keys_of ps) → entries_of (insert_entry R ps k None) ≡ remove_entry (is_at (R k)) (entries_of ps)
  unfolding IsStrictlySortedBy
  entries_of-take k [] s = refl
  entries_of-take k (p ∷ ps) s =
      elim (R k p.0) as (λ r. R k p.0 ≡ r → entries_of (insert_entry R (p ∷ ps) k None) ≡ remove_entry (is_at (R k)) (with_entry p.0 p.1 (entries_of ps))) [
        | Less ↦ λ h. rw h (sym (without_key-below R k (with_entry p.0 p.1 (entries_of ps)) (below-with_entry R k p.0 p.1 (entries_of ps) h (below-entries_of R k ps (below_past o k p.0 (keys_of ps) h s.0)))))
        | Equal ↦ λ h. rw h (take_at k p.0 p.1 (entries_of ps) h (below-entries_of R p.0 ps s.0))
        | Greater ↦ λ h. rw h (ap (with_entry p.0 p.1) (entries_of-take k ps s.1) ∙ take_past k p.0 p.1 (entries_of ps) h)
      ] refl

  -- what is at a key
  find_at : (k x : K) (place : Option V) (es : List (K × V)) → R k x ≡ Equal → Below R x (keys_of es) → lookup (is_at (R k)) (with_entry x place es) ≡ place
  find_at k x None es h below = value_at-below R k es (below_tied o k x (keys_of es) h below)
  find_at k x (Some u) es h below = rw h refl

  find_past : (k x : K) (place : Option V) (es : List (K × V)) → is_eq (R k x) ≡ false → lookup (is_at (R k)) (with_entry x place es) ≡ lookup (is_at (R k)) es
  find_past k x None es h = refl
  find_past k x (Some u) es h = rw h refl

  pub value_at-entries_of : (k : K) (ps : List (K × Option V)) → IsStrictlySortedBy R (keys_of ps) → lookup (is_at (R k)) (entries_of ps) ≡ value_in (lookup (is_at (R k)) ps)
  unfolding IsStrictlySortedBy
  value_at-entries_of k [] s = refl
  value_at-entries_of k (p ∷ ps) s =
      elim (R k p.0) as (λ r. R k p.0 ≡ r → lookup (is_at (R k)) (with_entry p.0 p.1 (entries_of ps)) ≡ value_in (lookup (is_at (R k)) (p ∷ ps))) [
        | Less ↦ λ h. find_past k p.0 p.1 (entries_of ps) (ap is_eq h) ∙ rw h (value_at-entries_of k ps s.1)
        | Equal ↦ λ h. find_at k p.0 p.1 (entries_of ps) h (below-entries_of R p.0 ps s.0) ∙ rw h refl
        | Greater ↦ λ h. find_past k p.0 p.1 (entries_of ps) (ap is_eq h) ∙ rw h (value_at-entries_of k ps s.1)
      ] refl

-- the first entry of the places from a bound on is the first entry from there on
module _ {K V : Type 0} (R : K → K → Ordering) where
  passed : (start : Bound K) (x : K) (place : Option V) (ps : List (K × Option V)) (es : List (K × V)) (b : Bool) → is_from_start R start x ≡ b → slice_get (entries_of ps) 0 ≡ first_from R start es
      → slice_get (entries_of (cond (b && true) ((x, place) ∷ ps) ps)) 0 ≡ first_from R start (with_entry x place es)
  passed start x None ps es true h rest = rest
  passed start x None ps es false h rest = rest
  passed start x (Some v) ps es true h rest = rw h refl
  passed start x (Some v) ps es false h rest = rw h rest

  pub first_from-entries_of : (start : Bound K) (ps : List (K × Option V)) → slice_get (entries_of (entries_between R start Unbounded ps)) 0 ≡ first_from R start (entries_of ps)
  first_from-entries_of start [] = refl
  first_from-entries_of start (p ∷ ps) = passed start p.0 p.1 (entries_between R start Unbounded ps) (entries_of ps) (is_from_start R start p.0) refl (first_from-entries_of start ps)
