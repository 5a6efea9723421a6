-- The first cell of a kind past another.
use Rattle.std.proofs.Common.{◌≡◌, ℕ, ◌<◌, ◌≤◌, refl, sym, ap, subst, ◌∙◌, arith, is_some, IsSome}
use mathlib.Core.Bool.{true≢false}
use Rattle.std.specs.Prelude.{Bool, true, false, Option, None, Some}
use Rattle.std.specs.declared.cmp.Ordering.{Ordering}
use Rattle.std.specs.declared.cmp.Ordering.TheVariants.{Less, Equal, Greater}
use Rattle.std.specs.Ordering.{is_lt, is_le, is_gt, nat_cmp, ordering_then, ordering_reverse}
use Rattle.std.specs.Cmp.{IsTotalOrder, ranked}
use Rattle.std.specs.BTreeMap.Range.{is_from_start}
use Rattle.dv_work.specs.Entries.{Ascends, first_from}
use Rattle.dv_work.proofs.EntryLaws.{IsFirst, Found, first_from-Found}
use Rattle.dv_value.specs.declared.id.Id.{Id}
use Rattle.dv_store.specs.declared.item.Item.{Item}
use Rattle.dv_store.specs.declared.keys.Key.{Key}
use Rattle.dv_store.specs.Keys.{key_cmp}
use Rattle.dv_store.specs.Exact.{exact}
use Rattle.dv_store.specs.Kept.{Cells, at}
use Rattle.dv_store.specs.Cursors.{IsPast, IsNext}
use Rattle.dv_store.specs.Seeking.{from_id, least_id}
use Rattle.dv_store.proofs.Parts.{total}

le_cmp : (a b : ℕ) → a ≤ b → is_le (nat_cmp a b) ≡ true
le_cmp a b le = elim (nat_cmp a b) as (λ r. r ≡ nat_cmp a b → is_le r ≡ true) [
  | Less ↦ λ h. refl
  | Equal ↦ λ h. refl
  | Greater ↦ λ h. let g : b < a = ranked a b Greater h in absurd (omega (arith, g, le))
] refl

lt_cmp : (a b : ℕ) → a < b → is_lt (nat_cmp a b) ≡ true
lt_cmp a b lt = elim (nat_cmp a b) as (λ r. r ≡ nat_cmp a b → is_lt r ≡ true) [
  | Less ↦ λ h. refl
  | Equal ↦ λ h. let e : a ≡ b = ranked a b Equal h in absurd (omega (arith, e, lt))
  | Greater ↦ λ h. let g : b < a = ranked a b Greater h in absurd (omega (arith, g, lt))
] refl

cmp_lt : (a b : ℕ) → is_lt (nat_cmp a b) ≡ true → a < b
cmp_lt a b = elim (nat_cmp a b) as (λ r. r ≡ nat_cmp a b → is_lt r ≡ true → a < b) [
  | Less ↦ λ h is. ranked a b Less h
  | Equal ↦ λ h is. absurd (true≢false (sym is))
  | Greater ↦ λ h is. absurd (true≢false (sym is))
] refl

cmp_le : (a b : ℕ) → is_gt (nat_cmp a b) ≡ false → a ≤ b
cmp_le a b = elim (nat_cmp a b) as (λ r. r ≡ nat_cmp a b → is_gt r ≡ false → a ≤ b) [
  | Less ↦ λ h is. let g : a < b = ranked a b Less h in omega (arith, g)
  | Equal ↦ λ h is. let e : a ≡ b = ranked a b Equal h in omega (arith, e)
  | Greater ↦ λ h is. absurd (true≢false is)
] refl

lt_is_le : (r : Ordering) → is_lt r ≡ true → is_le r ≡ true
lt_is_le Less h = refl
lt_is_le Equal h = absurd (true≢false (sym h))
lt_is_le Greater h = absurd (true≢false (sym h))

-- two keys that hold a third between them have its first part
pin : (r s s' : Ordering) → is_le (ordering_then r s) ≡ true → is_gt (ordering_then (ordering_reverse r) s') ≡ false → r ≡ Equal
pin Less s s' le gt = absurd (true≢false gt)
pin Equal s s' le gt = refl
pin Greater s s' le gt = absurd (true≢false (sym le))

pub pinned : {A : Type 0} {R : A → A → Ordering} → IsTotalOrder R → (a b : A) (s s' : Ordering) → is_le (ordering_then (R a b) s) ≡ true → is_gt (ordering_then (R b a) s') ≡ false → R a b ≡ Equal
pinned {R = R} o a b s s' le gt = pin (R a b) s s' le (subst (λ r. is_gt (ordering_then r s') ≡ false) (o.antisymm b a) gt)

pub missing : {X : Type 0} (x : Option X) → (IsSome x → ⊥) → x ≡ None
missing None h = refl
missing (Some x) h = absurd (h refl)

-- what is read of a key: the id of which it is made, or else that it lies between no two such keys
pub record IsReading (make : Id → Key) (k : Key) (id : Option Id) : Type 0 where
  pub made : (i : Id) → id ≡ Some i → k ≡ make i
  pub outside : id ≡ None → (a b : Id) → is_le (key_cmp (make a) k) ≡ true → is_gt (key_cmp k (make b)) ≡ false → ⊥

low : Option Id → Id
low None = least_id
low (Some a) = a

module _ (make : Id → Key) (inside : (a b : Id) → key_cmp (make a) (make b) ≡ nat_cmp a.0 b.0) (after : Option Id) (es : Cells) where
  abbrev starts : Key → Bool
  starts q = is_from_start key_cmp (from_id make after) q

  starts_low : (from : Option Id) (k : Key) → is_from_start key_cmp (from_id make from) k ≡ true → is_le (key_cmp (make (low from)) k) ≡ true
  unfolding low
  starts_low None k h = h
  starts_low (Some a) k h = lt_is_le (key_cmp (make a) k) h

  starts_past : (from : Option Id) (i : Id) → IsPast from i → is_from_start key_cmp (from_id make from) (make i) ≡ true
  starts_past None i h = rw (inside least_id i) (le_cmp 0 i.0 (omega arith))
  starts_past (Some a) i h = rw (inside a i) (lt_cmp a.0 i.0 h)

  past_start : (from : Option Id) (i : Id) → is_from_start key_cmp (from_id make from) (make i) ≡ true → IsPast from i
  past_start None i h = tt
  past_start (Some a) i h = cmp_lt a.0 i.0 (rw (inside a i) at h)

  abbrev IsThere : Id → Type 0
  IsThere id = IsSome (at es (make id))

  first_is : (k : Key) (x : Item) → IsFirst total exact starts es (k, x) → (id : Option Id) → IsReading make k id → IsNext IsThere after id
  first_is k x first None reading = λ i there past. reading.outside refl (low after) i (starts_low after k first.passes) (first.least (make i) there (starts_past after i past))
  first_is k x first (Some i) reading =
      let is : k ≡ make i = reading.made i refl in
      record {
        there = ap is_some (subst (λ k. at es k ≡ Some x) is first.there);
        past = past_start after i (subst (λ k. starts k ≡ true) is first.passes);
        least = λ other there past. cmp_le i.0 other.0 (subst (λ r. is_gt r ≡ false) (inside i other)
            (subst (λ k. is_gt (key_cmp k (make other)) ≡ false) is (first.least (make other) there (starts_past after other past))));
      }

  pub found_next : (k : Key) (x : Item) (id : Option Id) → Ascends key_cmp es → Some (k, x) ≡ first_from key_cmp (from_id make after) es → IsReading make k id → IsNext IsThere after id
  found_next k x id s is reading = first_is k x (subst (Found total exact starts es) (sym is) (first_from-Found total exact starts es s)) id reading

  pub found_none : Ascends key_cmp es → None ≡ first_from key_cmp (from_id make after) es → IsNext IsThere after None
  found_none s is = λ i there past. true≢false (sym (starts_past after i past) ∙ subst (Found total exact starts es) (sym is) (first_from-Found total exact starts es s) (make i) there)

-- the same of what holds for the same ids
pub IsNext-alike : (P Q : Id → Type 0) → ((i : Id) → P i → Q i) → ((i : Id) → Q i → P i) → (after result : Option Id) → IsNext P after result → IsNext Q after result
IsNext-alike P Q to from after None none = λ i q past. none i (from i q) past
IsNext-alike P Q to from after (Some id) least = record { there = to id least.there; past = least.past; least = λ other q past. least.least other (from other q) past }
