-- The first cell past another, where the order of a whole kind is that of the keys.
use Rattle.std.proofs.Common.{◌≡◌, ℕ, refl, sym, ap, subst, ◌∙◌, is_some, IsSome, arith}
use mathlib.Core.Bool.{true≢false}
use Rattle.std.specs.Prelude.{Bool, true, false, Option, None, Some}
use Rattle.std.specs.declared.cmp.Ordering.{Ordering}
use Rattle.std.specs.declared.cmp.Ordering.TheVariants.{Less, Equal, Greater}
use Rattle.std.specs.declared.ops.Bound.{Bound}
use Rattle.std.specs.declared.ops.Bound.TheVariants.{Included, Excluded}
use Rattle.std.specs.Ordering.{is_lt, is_le, is_gt, nat_cmp, ordering_then, ordering_reverse}
use Rattle.std.specs.Cmp.{IsTotalOrder, ranked}
use Rattle.std.specs.BTreeMap.Range.{is_from_start}
use Rattle.dv_work.specs.Entries.{Ascends, first_from}
use Rattle.dv_work.proofs.EntryLaws.{IsFirst, Found, first_from-Found}
use Rattle.dv_store.specs.declared.item.Item.{Item}
use Rattle.dv_store.specs.declared.keys.RowKey.{RowKey}
use Rattle.dv_store.specs.declared.keys.DirtyKey.{DirtyKey}
use Rattle.dv_store.specs.declared.keys.Place.TheVariants.{Row, Grant, Removal, Dirty, Counters}
use Rattle.dv_store.specs.declared.keys.Key.{Key}
use Rattle.dv_store.specs.declared.keys.Key.TheVariants.{At, In}
use Rattle.dv_store.specs.declared.shape.Shape.{Shape}
use Rattle.dv_store.specs.Keys.{key_cmp, row_cmp, dirty_cmp, at_dirty, at_removal}
use Rattle.dv_store.specs.Exact.{exact}
use Rattle.dv_store.specs.Kept.{Cells, at, kept_of, IsOrdered}
use Rattle.dv_store.specs.Cursors.{IsPastBy, IsNextBy, IsNextDirty, IsNextPlace}
use Rattle.dv_store.specs.Seeking.{from_dirty, from_removal, least_row, dirty_of, any_removal_of}
use Rattle.dv_store.proofs.Parts.{total}
use Rattle.dv_store.proofs.KeptLaws.{row_total, dirty_total}
use Rattle.dv_store.proofs.Nexts.{there-dirty, there-removals}

lt_less : (r : Ordering) → is_lt r ≡ true → r ≡ Less
lt_less Less h = refl
lt_less Equal h = absurd (true≢false (sym h))
lt_less Greater h = absurd (true≢false (sym h))

lt_is_le : (r : Ordering) → is_lt r ≡ true → is_le r ≡ true
lt_is_le Less h = refl
lt_is_le Equal h = absurd (true≢false (sym h))
lt_is_le Greater h = absurd (true≢false (sym h))

zero_le : (n : ℕ) → (s : Ordering) → is_le s ≡ true → is_le (ordering_then (nat_cmp 0 n) s) ≡ true
zero_le n s h = elim (nat_cmp 0 n) as (λ r. r ≡ nat_cmp 0 n → is_le (ordering_then r s) ≡ true) [
  | Less ↦ λ e. refl
  | Equal ↦ λ e. h
  | Greater ↦ λ e. let g = ranked 0 n Greater e in absurd (omega (arith, g))
] refl

zero_first : (n : ℕ) → is_le (nat_cmp 0 n) ≡ true
zero_first n = elim (nat_cmp 0 n) as (λ r. r ≡ nat_cmp 0 n → is_le r ≡ true) [
  | Less ↦ λ e. refl
  | Equal ↦ λ e. refl
  | Greater ↦ λ e. let g = ranked 0 n Greater e in absurd (omega (arith, g))
] refl

then_le : (a b : Ordering) → is_le a ≡ true → is_le b ≡ true → is_le (ordering_then a b) ≡ true
then_le Less b p q = refl
then_le Equal b p q = q
then_le Greater b p q = absurd (true≢false (sym p))

-- what is read of a key: the key of the kind of which it is made, or else that it lies behind or before all
pub record IsKeyReading {Q : Type 0} (make : Q → Key) (k : Key) (q : Option Q) : Type 0 where
  pub made : (i : Q) → q ≡ Some i → k ≡ make i
  pub outside : q ≡ None → (a b : Q) → is_le (key_cmp (make a) k) ≡ true → is_gt (key_cmp k (make b)) ≡ false → ⊥

abbrev pub from_by : {Q : Type 0} → (Q → Key) → Q → Option Q → Bound Key
from_by make least None = Included (make least)
from_by make least (Some after) = Excluded (make after)

low : {Q : Type 0} → Q → Option Q → Q
low least None = least
low least (Some a) = a

module _ {Q : Type 0} (R : Q → Q → Ordering) (o : IsTotalOrder R) (make : Q → Key) (same : (a b : Q) → key_cmp (make a) (make b) ≡ R a b) (least : Q) (lowest : (q : Q) → is_le (R least q) ≡ true) (after : Option Q) (es : Cells) where
  abbrev starts : Key → Bool
  starts k = is_from_start key_cmp (from_by make least after) k

  starts_low : (from : Option Q) (k : Key) → is_from_start key_cmp (from_by make least from) k ≡ true → is_le (key_cmp (make (low least from)) k) ≡ true
  unfolding low
  starts_low None k h = h
  starts_low (Some a) k h = lt_is_le (key_cmp (make a) k) h

  starts_past : (from : Option Q) (q : Q) → IsPastBy R from q → is_from_start key_cmp (from_by make least from) (make q) ≡ true
  starts_past None q h = ap is_le (same least q) ∙ lowest q
  starts_past (Some a) q h = ap is_lt (same a q ∙ h)

  past_start : (from : Option Q) (q : Q) → is_from_start key_cmp (from_by make least from) (make q) ≡ true → IsPastBy R from q
  past_start None q h = tt
  past_start (Some a) q h = sym (same a q) ∙ lt_less (key_cmp (make a) (make q)) h

  first_is : (k : Key) (x : Item) → IsFirst total exact starts es (k, x) → (r : Option Q) → IsKeyReading make k r → IsNextBy R (λ q. IsSome (at es (make q))) after r
  first_is k x first None reading = λ q there past. reading.outside refl (low least after) q (starts_low after k first.passes) (first.least (make q) there (starts_past after q past))
  first_is k x first (Some i) reading =
      let is : k ≡ make i = reading.made i refl in
      record {
        there = ap is_some (subst (λ k. at es k ≡ Some x) is first.there);
        past = past_start after i (subst (λ k. starts k ≡ true) is first.passes);
        least = λ other there past less. true≢false (
            sym (ap is_gt (o.antisymm i other ∙ ap ordering_reverse less))
            ∙ ap is_gt (sym (same i other))
            ∙ subst (λ k. is_gt (key_cmp k (make other)) ≡ false) is (first.least (make other) there (starts_past after other past)));
      }

  pub found_by : (k : Key) (x : Item) (r : Option Q) → Ascends key_cmp es → Some (k, x) ≡ first_from key_cmp (from_by make least after) es → IsKeyReading make k r → IsNextBy R (λ q. IsSome (at es (make q))) after r
  found_by k x r s is reading = first_is k x (subst (Found total exact starts es) (sym is) (first_from-Found total exact starts es s)) r reading

  pub found_none_by : Ascends key_cmp es → None ≡ first_from key_cmp (from_by make least after) es → IsNextBy R (λ q. IsSome (at es (make q))) after None
  found_none_by s is = λ q there past. true≢false (sym (starts_past after q past) ∙ subst (Found total exact starts es) (sym is) (first_from-Found total exact starts es s) (make q) there)

IsNextBy-alike : {Q : Type 0} (R : Q → Q → Ordering) (P S : Q → Type 0) → ((q : Q) → P q → S q) → ((q : Q) → S q → P q) → (after result : Option Q) → IsNextBy R P after result → IsNextBy R S after result
IsNextBy-alike R P S to from after None none = λ q s past. none q (from q s) past
IsNextBy-alike R P S to from after (Some q) least = record { there = to q least.there; past = least.past; least = λ other s past less. least.least other (from other s) past less }

some_same : {X : Type 0} {x y : X} → Some x ≡ Some y → x ≡ y
some_same e = cc

not_some : {X A : Type 0} {x : X} → None ≡ Some x → A
not_some e = absurd (true≢false (sym (ap is_some e)))

not_none : {X A : Type 0} {x : X} → Some x ≡ None → A
not_none e = absurd (true≢false (ap is_some e))

reads_dirty : (k : Key) → IsKeyReading at_dirty k (dirty_of k)
reads_dirty (At (Dirty key)) = record { made = λ i e. ap at_dirty (some_same e); outside = λ e. not_none e }
reads_dirty (At (Row key)) = record { made = λ i e. not_some e; outside = λ e a b le gt. true≢false (sym le) }
reads_dirty (At (Grant key)) = record { made = λ i e. not_some e; outside = λ e a b le gt. true≢false (sym le) }
reads_dirty (At (Removal key)) = record { made = λ i e. not_some e; outside = λ e a b le gt. true≢false (sym le) }
reads_dirty (At Counters) = record { made = λ i e. not_some e; outside = λ e a b le gt. true≢false gt }
reads_dirty (In key) = record { made = λ i e. not_some e; outside = λ e a b le gt. true≢false gt }

reads_removal : (k : Key) → IsKeyReading at_removal k (any_removal_of k)
reads_removal (At (Removal key)) = record { made = λ i e. ap at_removal (some_same e); outside = λ e. not_none e }
reads_removal (At (Row key)) = record { made = λ i e. not_some e; outside = λ e a b le gt. true≢false (sym le) }
reads_removal (At (Grant key)) = record { made = λ i e. not_some e; outside = λ e a b le gt. true≢false (sym le) }
reads_removal (At (Dirty key)) = record { made = λ i e. not_some e; outside = λ e a b le gt. true≢false gt }
reads_removal (At Counters) = record { made = λ i e. not_some e; outside = λ e a b le gt. true≢false gt }
reads_removal (In key) = record { made = λ i e. not_some e; outside = λ e a b le gt. true≢false gt }

lowest_row : (q : RowKey) → is_le (row_cmp least_row q) ≡ true
lowest_row q = zero_le q.table (nat_cmp 0 q.id.0) (zero_first q.id.0)

least_dirty : DirtyKey
least_dirty = record { row = least_row; column = 0 }

lowest_dirty : (q : DirtyKey) → is_le (dirty_cmp least_dirty q) ≡ true
unfolding least_dirty
lowest_dirty q = then_le (row_cmp least_row q.row) (nat_cmp 0 q.column) (lowest_row q.row) (zero_first q.column)

from_dirty-by : (after : Option DirtyKey) → from_dirty after ≡ from_by at_dirty least_dirty after
unfolding least_dirty
from_dirty-by None = refl
from_dirty-by (Some a) = refl

from_removal-by : (after : Option RowKey) → from_removal after ≡ from_by at_removal least_row after
from_removal-by None = refl
from_removal-by (Some a) = refl

module _ (shape : Shape) (es : Cells) (ordered : IsOrdered es) where
  pub next-dirty : (after : Option DirtyKey) (k : Key) (x : Item) → Some (k, x) ≡ first_from key_cmp (from_dirty after) es → IsNextDirty (kept_of shape es).world.dirty after (dirty_of k)
  next-dirty after k x is = IsNextBy-alike dirty_cmp _ _ (λ q h. there-dirty shape es ordered q ∙ h) (λ q h. sym (there-dirty shape es ordered q) ∙ h) after (dirty_of k)
      (found_by dirty_cmp dirty_total at_dirty (λ a b. refl) least_dirty lowest_dirty after es k x (dirty_of k) ordered.ordered (is ∙ ap (λ b. first_from key_cmp b es) (from_dirty-by after)) (reads_dirty k))

  pub no-dirty : (after : Option DirtyKey) → None ≡ first_from key_cmp (from_dirty after) es → IsNextDirty (kept_of shape es).world.dirty after None
  no-dirty after is = IsNextBy-alike dirty_cmp _ _ (λ q h. there-dirty shape es ordered q ∙ h) (λ q h. sym (there-dirty shape es ordered q) ∙ h) after None
      (found_none_by dirty_cmp dirty_total at_dirty (λ a b. refl) least_dirty lowest_dirty after es ordered.ordered (is ∙ ap (λ b. first_from key_cmp b es) (from_dirty-by after)))

  pub next-place : (after : Option RowKey) (k : Key) (x : Item) → Some (k, x) ≡ first_from key_cmp (from_removal after) es → IsNextPlace (kept_of shape es).world.removals after (any_removal_of k)
  next-place after k x is = IsNextBy-alike row_cmp _ _ (λ q h. there-removals shape es ordered q ∙ h) (λ q h. sym (there-removals shape es ordered q) ∙ h) after (any_removal_of k)
      (found_by row_cmp row_total at_removal (λ a b. refl) least_row lowest_row after es k x (any_removal_of k) ordered.ordered (is ∙ ap (λ b. first_from key_cmp b es) (from_removal-by after)) (reads_removal k))

  pub no-place : (after : Option RowKey) → None ≡ first_from key_cmp (from_removal after) es → IsNextPlace (kept_of shape es).world.removals after None
  no-place after is = IsNextBy-alike row_cmp _ _ (λ q h. there-removals shape es ordered q ∙ h) (λ q h. sym (there-removals shape es ordered q) ∙ h) after None
      (found_none_by row_cmp row_total at_removal (λ a b. refl) least_row lowest_row after es ordered.ordered (is ∙ ap (λ b. first_from key_cmp b es) (from_removal-by after)))
