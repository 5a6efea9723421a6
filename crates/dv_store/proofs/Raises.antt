-- The removals up to a floor, taken one by one.
use Rattle.std.proofs.Common.{◌≡◌, ℕ, ◌+◌, ◌-◌, ◌*◌, ◌^◌, ◌≤◌, ◌<◌, refl, sym, ap, subst, ◌∙◌, arith, IsSome}
use mathlib.Core.Bool.{true≢false}
use Rattle.std.specs.Prelude.{Bool, true, false, cond, not, Option, None, Some}
use Rattle.std.specs.declared.cmp.Ordering.{Ordering}
use Rattle.std.specs.declared.cmp.Ordering.TheVariants.{Less, Equal, Greater}
use Rattle.std.specs.Ordering.{is_eq, nat_cmp, ordering_then, ordering_reverse}
use Rattle.std.specs.Cmp.{Equal-is, ranked}
use Rattle.std.specs.FinMap as map
use Rattle.dv_store.specs.declared.keys.RowKey.{RowKey}
use Rattle.dv_store.specs.Keys.{row_cmp}
use Rattle.dv_store.specs.Exact.{exact_row}
use Rattle.dv_store.specs.declared.item.Totals.{Totals}
use Rattle.dv_store.specs.World.{World, Removals, is_up_to, floor_raised}
use Rattle.dv_store.specs.Cursors.{IsPastBy, IsLeastBy}
use Rattle.dv_store.specs.Raised.{without_old, removals_dropped, removal_gone, removal_dropped, with_removal_gone, place_number}
use Rattle.dv_store.specs.Kept.{Kept, with_rows, with_totals, totals_of, IsWell}
use Rattle.dv_store.proofs.KeptLaws.{row_total}
use Rattle.dv_store.proofs.Counts.{len_there, len_without}

-- what is left
get-without_old : (removals : Removals) (floor : ℕ) (q : RowKey) → map.get (without_old removals floor) q ≡ cond (not (is_up_to floor (map.get removals q))) (map.get removals q) None
get-without_old removals floor q = map.get-retain_keys removals (λ key. not (is_up_to floor (map.get removals key))) q (λ x tied. ap (λ key. not (is_up_to floor (map.get removals key))) (sym (exact_row q x tied)))

same_removals : (a b : Removals) → ((q : RowKey) → map.get a q ≡ map.get b q) → a ≡ b
same_removals a b is = map.same_map row_total exact_row a b is

drops : (floor : ℕ) (d : Bool) (x : Option ℕ) → (d ≡ true → is_up_to floor x ≡ true) → cond (not (is_up_to floor (cond d None x))) (cond d None x) None ≡ cond (not (is_up_to floor x)) x None
drops floor true x old = ap (λ b. cond (not b) x None) (sym (old refl))
drops floor false x old = refl

-- without one that is old first
pub dropped-removal_dropped : (w : World) (key : RowKey) (floor : ℕ) → removals_dropped (removal_dropped w key floor) floor ≡ removals_dropped w floor
dropped-removal_dropped w key floor = by_case (is_up_to floor (map.get w.removals key)) refl
  where
    by_case : (b : Bool) → is_up_to floor (map.get w.removals key) ≡ b → removals_dropped (cond b (removal_gone w key) w) floor ≡ removals_dropped w floor
    by_case true old = ap (λ removals. record w { removals = removals }) (same_removals (without_old (map.remove w.removals key) floor) (without_old w.removals floor) (λ q.
        get-without_old (map.remove w.removals key) floor q
        ∙ ap (λ x. cond (not (is_up_to floor x)) x None) (map.get-remove row_total w.removals key q)
        ∙ drops floor (is_eq (row_cmp q key)) (map.get w.removals q) (λ tied. ap (λ k. is_up_to floor (map.get w.removals k)) (exact_row q key ((Equal-is _).0 tied)) ∙ old)
        ∙ sym (get-without_old w.removals floor q)))
    by_case false old = refl

stays : (floor : ℕ) (b : Bool) (x : Option ℕ) → is_up_to floor x ≡ b → (IsSome x → b ≡ false) → cond (not b) x None ≡ x
stays floor true None is h = refl
stays floor true (Some v) is h = absurd (true≢false (h refl))
stays floor false x is h = refl

-- where none is old
pub dropped-none : (w : World) (floor : ℕ) → ((q : RowKey) → IsSome (map.get w.removals q) → is_up_to floor (map.get w.removals q) ≡ false) → removals_dropped w floor ≡ w
dropped-none w floor none = ap (λ removals. record w { removals = removals }) (same_removals (without_old w.removals floor) w.removals (λ q.
    get-without_old w.removals floor q ∙ stays floor (is_up_to floor (map.get w.removals q)) (map.get w.removals q) refl (none q)))

-- what is left and old lies past the one that was looked at
left : (d : Bool) (x : Option ℕ) → IsSome (cond d None x) → (d ≡ false) × IsSome x
left true x h = absurd (true≢false (sym h))
left false x h = (refl, h)

module _ (w : World) (floor : ℕ) (after : Option RowKey) (key : RowKey)
    (past : (q : RowKey) → IsSome (map.get w.removals q) → is_up_to floor (map.get w.removals q) ≡ true → IsPastBy row_cmp after q)
    (least : IsLeastBy row_cmp (λ q. IsSome (map.get w.removals q)) after key) where
  beyond : (q : RowKey) → IsSome (map.get w.removals q) → is_up_to floor (map.get w.removals q) ≡ true → (is_eq (row_cmp q key) ≡ false) → row_cmp key q ≡ Less
  beyond q there old apart = elim (row_cmp q key) as (λ r. row_cmp q key ≡ r → row_cmp key q ≡ Less) [
    | Less ↦ λ e. absurd (least.least q there (past q there old) e)
    | Equal ↦ λ e. absurd (true≢false (sym (ap is_eq e) ∙ apart))
    | Greater ↦ λ e. row_total.antisymm key q ∙ ap ordering_reverse e
  ] refl

  pub past-removal_dropped : (q : RowKey) → IsSome (map.get (removal_dropped w key floor).removals q) → is_up_to floor (map.get (removal_dropped w key floor).removals q) ≡ true → row_cmp key q ≡ Less
  past-removal_dropped q = by_case (is_up_to floor (map.get w.removals key)) refl
    where
      by_case : (b : Bool) → is_up_to floor (map.get w.removals key) ≡ b → IsSome (map.get (cond b (removal_gone w key) w).removals q) → is_up_to floor (map.get (cond b (removal_gone w key) w).removals q) ≡ true → row_cmp key q ≡ Less
      by_case true was there old =
          let g = map.get-remove row_total w.removals key q in
          let l = left (is_eq (row_cmp q key)) (map.get w.removals q) (subst IsSome g there) in
          let same : map.get (map.remove w.removals key) q ≡ map.get w.removals q = g ∙ ap (λ b. cond b None (map.get w.removals q)) l.0 in
          beyond q l.1 (ap (is_up_to floor) (sym same) ∙ old) l.0
      by_case false was there old = beyond q there old (apart (is_eq (row_cmp q key)) refl)
        where
          apart : (b : Bool) → is_eq (row_cmp q key) ≡ b → b ≡ false
          apart true tied = absurd (true≢false (sym old ∙ ap (λ k. is_up_to floor (map.get w.removals k)) (exact_row q key ((Equal-is _).0 tied)) ∙ was))
          apart false tied = refl

-- one removal fewer
pub IsWell-removal_gone : (p : Kept) (key : RowKey) → IsWell p → IsSome (map.get p.world.removals key) → (rows : ℕ) → rows ≡ p.rows - 1 → IsWell (with_removal_gone (with_rows p rows) key)
IsWell-removal_gone p key well there rows is =
    let one : 1 ≤ map.len p.world.removals = len_there row_total p.world.removals key there in
    let less : map.len p.world.removals - 1 ≡ map.len (map.remove p.world.removals key) = len_without row_total p.world.removals key (map.len p.world.removals) true refl there in
    record {
      listed = well.listed;
      rows = omega (arith, is, one, less, well.rows);
      grants = well.grants;
      few_rows = omega (arith, is, well.few_rows);
      few_grants = well.few_grants;
      version = well.version;
      stand = λ grant h. let s = well.stand grant h in record { row = s.row; owned = s.owned };
    }

pub ascends-place_number : (after : Option RowKey) (key : RowKey) → ((k : RowKey) → after ≡ Some k → k.id.0 < 2 ^ 128) → IsPastBy row_cmp after key → place_number after < place_number (Some key)
ascends-place_number None key fits past = omega arith
ascends-place_number (Some a) key fits past = elim (nat_cmp a.table key.table) as (λ r. r ≡ nat_cmp a.table key.table → ordering_then r (nat_cmp a.id.0 key.id.0) ≡ Less → a.table * 2 ^ 128 + a.id.0 + 1 < key.table * 2 ^ 128 + key.id.0 + 1) [
  | Less ↦ λ e h. let lt : a.table < key.table = ranked a.table key.table Less e in let f = fits a refl in omega (arith, lt, f)
  | Equal ↦ λ e h. let is : a.table ≡ key.table = ranked a.table key.table Equal e in let lt : a.id.0 < key.id.0 = ranked a.id.0 key.id.0 Less (sym h) in omega (arith, is, lt)
  | Greater ↦ λ e h. absurd (true≢false (sym (ap is_less h)))
] refl past
  where
    is_less : Ordering → Bool
    is_less Less = true
    is_less Equal = false
    is_less Greater = false

-- the floor raised, and the removals up to it dropped
pub raised : (p : Kept) (totals : Totals) (floor : ℕ) → totals ≡ totals_of p → removals_dropped (with_totals p (record totals { floor = floor })).world floor ≡ floor_raised p.world floor
unfolding floor_raised
raised p totals floor is = ap (λ t. removals_dropped (with_totals p (record t { floor = floor })).world floor) is

pub most-place_number : (key : RowKey) → key.table < 2 ^ 16 → key.id.0 < 2 ^ 128 → place_number (Some key) < 2 ^ 144 + 1
most-place_number key t i = omega (arith, t, i)
