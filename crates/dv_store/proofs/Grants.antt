-- The rights of a grant set.
use Rattle.std.proofs.Common.{◌≡◌, ℕ, ◌+◌, ◌-◌, ◌≤◌, refl, sym, ap, subst, ◌∙◌, arith, is_some, IsSome}
use mathlib.Core.Bool.{true≢false}
use Rattle.std.specs.Prelude.{Bool, true, false, cond, not, ◌&&◌, Option, None, Some}
use Rattle.std.specs.declared.cmp.Ordering.{Ordering}
use Rattle.std.specs.declared.cmp.Ordering.TheVariants.{Less, Equal, Greater}
use Rattle.std.specs.Ordering.{is_eq, nat_cmp, ordering_then}
use Rattle.std.specs.Cmp.{Equal-is}
use Rattle.std.specs.FinMap as map
use Rattle.dv_store.specs.declared.keys.By.TheVariants as by
use Rattle.dv_store.specs.declared.keys.Entry.{Entry}
use Rattle.dv_store.specs.declared.keys.GrantKey.{GrantKey}
use Rattle.dv_store.specs.contracts.keys.ByOrd.TheImpl as by_order
use Rattle.dv_store.specs.Keys.{entry_cmp, grant_cmp, grant_key, shared_list}
use Rattle.dv_store.specs.Exact.{exact_grant}
use Rattle.dv_store.specs.World.{World, grant_set, is_none, most_grants, Stands, GrantsStand}
use Rattle.dv_store.specs.declared.item.Item.TheVariants as item
use Rattle.dv_store.specs.Kept.{Kept, with_entry, with_grant, with_count, grant_item, grant_in, present_in, present_if, is_listed, is_listed_by, IsWell}
use Rattle.dv_store.proofs.Parts.{get-with_entry}
use Rattle.dv_store.proofs.KeptLaws.{grant_total, entry_total}
use Rattle.dv_store.proofs.Counts.{len_without, len_again}
use Rattle.dv_store.proofs.Listings.{is_eq-then}

-- how many grants there are then
pub len-set : (w : World) (key : GrantKey) (d i : ℕ) (b : Bool) → is_none d i ≡ b → cond b (map.len (map.remove w.grants key)) (map.len (map.remove w.grants key) + 1) ≡ map.len (grant_set w key d i).grants
unfolding grant_set
len-set w key d i true is = rw is refl
len-set w key d i false is = rw is (len_again grant_total w.grants key (d, i))

less_or_same : (n m : ℕ) (b : Bool) → cond b (n - 1) n ≡ m → m ≤ n
less_or_same n m true e = omega (arith, e)
less_or_same n m false e = omega (arith, e)

pub few_without : (p : Kept) (key : GrantKey) → IsWell p → map.len (map.remove p.world.grants key) ≤ 500000
few_without p key well =
    let le = less_or_same (map.len p.world.grants) (map.len (map.remove p.world.grants key)) (map.contains_key p.world.grants key) (len_without grant_total p.world.grants key (map.len p.world.grants) (map.contains_key p.world.grants key) refl refl) in
    omega (arith, le, well.grants, well.few_grants)

-- the world is as it should be
pub world-with_grant : (p : Kept) (key : GrantKey) (d i : ℕ) → (with_grant p key d i).world ≡ grant_set p.world key d i
unfolding grant_set
world-with_grant p key d i = elim (is_none d i) as (λ b. record p.world { grants = with_entry p.world.grants key (grant_in (cond b None (Some (item.Grant d i)))) } ≡ record p.world { grants = cond b (map.remove p.world.grants key) (map.insert p.world.grants key (d, i)) }) [ true ↦ refl | false ↦ refl ]

-- in the lists it is the entry of its principal alone
same_entry : (e : Entry) (key : GrantKey) → e.list.by ≡ by.Grant → is_eq (entry_cmp e (record { list = shared_list key.row.table key.principal; id = key.row.id })) ≡ is_eq (grant_cmp (grant_key e.list.table e.id e.list.of) key)
same_entry e key is =
    is_eq-then (ordering_then (nat_cmp e.list.table key.row.table) (ordering_then (by_order.ghosts.cmp e.list.by by.Grant) (nat_cmp e.list.of.0 key.principal.0))) (nat_cmp e.id.0 key.row.id.0)
    ∙ ap (λ b. is_eq (ordering_then (nat_cmp e.list.table key.row.table) (ordering_then (by_order.ghosts.cmp b by.Grant) (nat_cmp e.list.of.0 key.principal.0))) && is_eq (nat_cmp e.id.0 key.row.id.0)) is
    ∙ ap (λ b. b && is_eq (nat_cmp e.id.0 key.row.id.0)) (is_eq-then (nat_cmp e.list.table key.row.table) (nat_cmp e.list.of.0 key.principal.0))
    ∙ turn (is_eq (nat_cmp e.list.table key.row.table)) (is_eq (nat_cmp e.list.of.0 key.principal.0)) (is_eq (nat_cmp e.id.0 key.row.id.0))
    ∙ ap (λ b. b && is_eq (nat_cmp e.list.of.0 key.principal.0)) (sym (is_eq-then (nat_cmp e.list.table key.row.table) (nat_cmp e.id.0 key.row.id.0)))
    ∙ sym (is_eq-then (ordering_then (nat_cmp e.list.table key.row.table) (nat_cmp e.id.0 key.row.id.0)) (nat_cmp e.list.of.0 key.principal.0))
  where
    turn : (a b c : Bool) → ((a && b) && c) ≡ ((a && c) && b)
    turn true true true = refl
    turn true true false = refl
    turn true false true = refl
    turn true false false = refl
    turn false b c = refl

other_entry : (e : Entry) (key : GrantKey) (p : ℕ) → e.list.by ≡ by.Place p → is_eq (entry_cmp e (record { list = shared_list key.row.table key.principal; id = key.row.id })) ≡ false
other_entry e key p is =
    ap (λ b. is_eq (ordering_then (ordering_then (nat_cmp e.list.table key.row.table) (ordering_then (by_order.ghosts.cmp b by.Grant) (nat_cmp e.list.of.0 key.principal.0))) (nat_cmp e.id.0 key.row.id.0))) is
    ∙ apart (nat_cmp e.list.table key.row.table) (nat_cmp e.id.0 key.row.id.0)
  where
    apart : (a c : Ordering) → is_eq (ordering_then (ordering_then a Greater) c) ≡ false
    apart Less c = refl
    apart Equal c = refl
    apart Greater c = refl

some_alike : (b n : Bool) (d i : ℕ) (x : Option (Unit {0})) (y : Option (ℕ × ℕ)) → is_some x ≡ is_some y
    → is_some (cond b (present_in (present_if (not n))) x) ≡ is_some (cond b (grant_in (cond n None (Some (item.Grant d i)))) y)
some_alike true true d i x y is = refl
some_alike true false d i x y is = refl
some_alike false n d i x y is = is

module _ (p : Kept) (key : GrantKey) (d i : ℕ) (well : IsWell p) where
  set_listed : (e : Entry) → map.contains_key (with_grant p key d i).listed e ≡ is_listed (with_grant p key d i).world e
  set_listed e = elim e.list.by as (λ b. e.list.by ≡ b → map.contains_key (with_grant p key d i).listed e ≡ is_listed_by (with_grant p key d i).world e.list e.id b) [
    | by.Grant ↦ λ is.
        ap is_some (get-with_entry entry_total p.listed (record { list = shared_list key.row.table key.principal; id = key.row.id }) (present_in (present_if (not (is_none d i)))) e)
        ∙ ap (λ b. is_some (cond b (present_in (present_if (not (is_none d i)))) (map.get p.listed e))) (same_entry e key is)
        ∙ some_alike (is_eq (grant_cmp (grant_key e.list.table e.id e.list.of) key)) (is_none d i) d i (map.get p.listed e) (map.get p.world.grants (grant_key e.list.table e.id e.list.of)) (well.listed e ∙ ap (is_listed_by p.world e.list e.id) is)
        ∙ ap is_some (sym (get-with_entry grant_total p.world.grants key (grant_in (grant_item d i)) (grant_key e.list.table e.id e.list.of)))
    | by.Place q ↦ λ is.
        ap is_some (get-with_entry entry_total p.listed (record { list = shared_list key.row.table key.principal; id = key.row.id }) (present_in (present_if (not (is_none d i)))) e)
        ∙ ap (λ b. is_some (cond b (present_in (present_if (not (is_none d i)))) (map.get p.listed e))) (other_entry e key q is)
        ∙ well.listed e ∙ ap (is_listed_by p.world e.list e.id) is
  ] refl

  -- a grant that is there was there before, or is the one that was set
  stands_by : (grant : GrantKey) (b : Bool) (x : Option (ℕ × ℕ)) → is_eq (grant_cmp grant key) ≡ b → Stands p.world key → IsSome (cond b x (map.get p.world.grants grant)) → Stands p.world grant
  stands_by grant true x is stands there = subst (Stands p.world) (sym (exact_grant grant key ((Equal-is _).0 is))) stands
  stands_by grant false x is stands there = well.stand grant there

  none_by : (grant : GrantKey) (b : Bool) → is_none d i ≡ true → IsSome (cond b (grant_in (grant_item d i)) (map.get p.world.grants grant)) → Stands p.world grant
  none_by grant true is there = absurd (true≢false (sym there ∙ ap (λ n. is_some (grant_in (cond n None (Some (item.Grant d i))))) is))
  none_by grant false is there = well.stand grant there

  -- what is kept is right, if the count is
  well_by : (n : ℕ) → n ≡ map.len (grant_set p.world key d i).grants → n ≤ most_grants → GrantsStand (with_grant p key d i).world → IsWell (with_grant (with_count p n) key d i)
  well_by n is few stand = record {
    listed = set_listed;
    rows = well.rows;
    grants = is ∙ ap (λ w. map.len w.grants) (sym (world-with_grant p key d i));
    few_rows = well.few_rows;
    few_grants = few;
    version = well.version;
    stand = stand;
  }

  pub IsWell-with_grant : (n : ℕ) → n ≡ map.len (grant_set p.world key d i).grants → n ≤ most_grants → Stands p.world key → IsWell (with_grant (with_count p n) key d i)
  IsWell-with_grant n is few stands = well_by n is few (λ grant there.
      let s = stands_by grant (is_eq (grant_cmp grant key)) (grant_in (grant_item d i)) refl stands (ap is_some (sym (get-with_entry grant_total p.world.grants key (grant_in (grant_item d i)) grant)) ∙ there) in
      record { row = s.row; owned = s.owned })

  pub IsWell-without_grant : (n : ℕ) → n ≡ map.len (grant_set p.world key d i).grants → n ≤ most_grants → is_none d i ≡ true → IsWell (with_grant (with_count p n) key d i)
  IsWell-without_grant n is few none = well_by n is few (λ grant there.
      let s = none_by grant (is_eq (grant_cmp grant key)) none (ap is_some (sym (get-with_entry grant_total p.world.grants key (grant_in (grant_item d i)) grant)) ∙ there) in
      record { row = s.row; owned = s.owned })
