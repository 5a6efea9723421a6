-- What is read of the keys of each kind.
use Rattle.std.proofs.Common.{◌≡◌, ℕ, refl, sym, ap, subst, ◌∙◌, is_some}
use mathlib.Core.Bool.{true≢false}
use Rattle.std.specs.Prelude.{Bool, true, false, cond, ◌==◌, None, Some}
use Rattle.std.proofs.lemmas.Bool.{eqb-true, eq-eqb}
use Rattle.std.proofs.lemmas.Map.Lookups.{exact_unsigned}
use Rattle.std.specs.Ordering.{is_eq, is_le, is_gt, nat_cmp}
use Rattle.std.specs.Cmp.{IsTotalOrder, nat_cmp_total, tied_itself, Equal-is}
use Rattle.dv_value.specs.declared.id.Id.{Id}
use Rattle.dv_store.specs.declared.keys.RowKey.{RowKey}
use Rattle.dv_store.specs.declared.keys.Listing.{Listing}
use Rattle.dv_store.specs.declared.keys.Place.TheVariants.{Row, Grant, Removal, Dirty, Counters}
use Rattle.dv_store.specs.declared.keys.Key.{Key}
use Rattle.dv_store.specs.declared.keys.Key.TheVariants.{At, In}
use Rattle.dv_store.specs.contracts.keys.ListingOrd.TheImpl.Laws as list_laws
use Rattle.dv_store.specs.Keys.{key_cmp, row_cmp, list_cmp, at_row, at_removal, at_grant, in_list, row_key}
use Rattle.dv_store.specs.Exact.{exact_row, exact_list}
use Rattle.dv_store.specs.Seeking.{row_of, removal_of, grant_of, entry_of}
use Rattle.dv_store.proofs.KeptLaws.{row_total}
use Rattle.dv_store.proofs.Seeks.{IsReading, pinned}

pub list_total : IsTotalOrder list_cmp
list_total = list_laws.total-law

not_some : {X A : Type 0} {x : X} → None ≡ Some x → A
not_some e = absurd (true≢false (sym (ap is_some e)))

not_none : {X A : Type 0} {x : X} → Some x ≡ None → A
not_none e = absurd (true≢false (ap is_some e))

-- a key of another kind, which lies before all of these or behind them
module _ (make : Id → Key) where
  pub none_read : (k : Key) → ((a b : Id) → is_le (key_cmp (make a) k) ≡ true → is_gt (key_cmp k (make b)) ≡ false → ⊥) → IsReading make k None
  none_read k apart = record { made = λ i e. not_some e; outside = λ e. apart }

  -- a key of the kind, under a test of its first part
  pub read_here : (k : Key) (i : Id) (b : Bool) → (b ≡ true → k ≡ make i) → (b ≡ false → (a c : Id) → is_le (key_cmp (make a) k) ≡ true → is_gt (key_cmp k (make c)) ≡ false → ⊥) → IsReading make k (cond b (Some i) None)
  read_here k i true is apart = record { made = λ j e. is refl ∙ ap make (some_same e); outside = λ e. not_none e }
    where
      some_same : {X : Type 0} {x y : X} → Some x ≡ Some y → x ≡ y
      some_same e = cc
  read_here k i false is apart = none_read k (apart refl)

pub reads_row : (table : ℕ) (k : Key) → IsReading (λ id. at_row (row_key table id)) k (row_of table k)
reads_row table (At (Row key)) = read_here (λ id. at_row (row_key table id)) (At (Row key)) key.id (key.table == table)
    (λ is. let e = eqb-true key.table table is in λ j. At (Row (record { table = e j; id = key.id })))
    (λ apart a c le gt. true≢false (sym (eq-eqb key.table table (sym (exact_unsigned table key.table (pinned nat_cmp_total table key.table (nat_cmp a.0 key.id.0) (nat_cmp key.id.0 c.0) le gt)))) ∙ apart))
reads_row table (At (Grant key)) = none_read (λ id. at_row (row_key table id)) (At (Grant key)) (λ a b le gt. true≢false gt)
reads_row table (At (Removal key)) = none_read (λ id. at_row (row_key table id)) (At (Removal key)) (λ a b le gt. true≢false gt)
reads_row table (At (Dirty key)) = none_read (λ id. at_row (row_key table id)) (At (Dirty key)) (λ a b le gt. true≢false gt)
reads_row table (At Counters) = none_read (λ id. at_row (row_key table id)) (At Counters) (λ a b le gt. true≢false gt)
reads_row table (In key) = none_read (λ id. at_row (row_key table id)) (In key) (λ a b le gt. true≢false gt)

pub reads_removal : (table : ℕ) (k : Key) → IsReading (λ id. at_removal (row_key table id)) k (removal_of table k)
reads_removal table (At (Removal key)) = read_here (λ id. at_removal (row_key table id)) (At (Removal key)) key.id (key.table == table)
    (λ is. let e = eqb-true key.table table is in λ j. At (Removal (record { table = e j; id = key.id })))
    (λ apart a c le gt. true≢false (sym (eq-eqb key.table table (sym (exact_unsigned table key.table (pinned nat_cmp_total table key.table (nat_cmp a.0 key.id.0) (nat_cmp key.id.0 c.0) le gt)))) ∙ apart))
reads_removal table (At (Row key)) = none_read (λ id. at_removal (row_key table id)) (At (Row key)) (λ a b le gt. true≢false (sym le))
reads_removal table (At (Grant key)) = none_read (λ id. at_removal (row_key table id)) (At (Grant key)) (λ a b le gt. true≢false (sym le))
reads_removal table (At (Dirty key)) = none_read (λ id. at_removal (row_key table id)) (At (Dirty key)) (λ a b le gt. true≢false gt)
reads_removal table (At Counters) = none_read (λ id. at_removal (row_key table id)) (At Counters) (λ a b le gt. true≢false gt)
reads_removal table (In key) = none_read (λ id. at_removal (row_key table id)) (In key) (λ a b le gt. true≢false gt)

pub reads_grant : (row : RowKey) (k : Key) → IsReading (λ id. at_grant (record { row = row; principal = id })) k (grant_of row k)
reads_grant row (At (Grant key)) = read_here (λ id. at_grant (record { row = row; principal = id })) (At (Grant key)) key.principal (is_eq (row_cmp key.row row))
    (λ is. let e = exact_row key.row row ((Equal-is _).0 is) in λ j. At (Grant (record { row = e j; principal = key.principal })))
    (λ apart a c le gt. true≢false (sym (subst (λ r. is_eq (row_cmp r row) ≡ true) (exact_row row key.row (pinned row_total row key.row (nat_cmp a.0 key.principal.0) (nat_cmp key.principal.0 c.0) le gt)) (ap is_eq (tied_itself row_total row))) ∙ apart))
reads_grant row (At (Row key)) = none_read (λ id. at_grant (record { row = row; principal = id })) (At (Row key)) (λ a b le gt. true≢false (sym le))
reads_grant row (At (Removal key)) = none_read (λ id. at_grant (record { row = row; principal = id })) (At (Removal key)) (λ a b le gt. true≢false gt)
reads_grant row (At (Dirty key)) = none_read (λ id. at_grant (record { row = row; principal = id })) (At (Dirty key)) (λ a b le gt. true≢false gt)
reads_grant row (At Counters) = none_read (λ id. at_grant (record { row = row; principal = id })) (At Counters) (λ a b le gt. true≢false gt)
reads_grant row (In key) = none_read (λ id. at_grant (record { row = row; principal = id })) (In key) (λ a b le gt. true≢false gt)

pub reads_entry : (list : Listing) (k : Key) → IsReading (λ id. in_list list id) k (entry_of list k)
reads_entry list (In key) = read_here (λ id. in_list list id) (In key) key.id (is_eq (list_cmp key.list list))
    (λ is. let e = exact_list key.list list ((Equal-is _).0 is) in λ j. In (record { list = e j; id = key.id }))
    (λ apart a c le gt. true≢false (sym (subst (λ r. is_eq (list_cmp r list) ≡ true) (exact_list list key.list (pinned list_total list key.list (nat_cmp a.0 key.id.0) (nat_cmp key.id.0 c.0) le gt)) (ap is_eq (tied_itself list_total list))) ∙ apart))
reads_entry list (At place) = none_read (λ id. in_list list id) (At place) (λ a b le gt. true≢false (sym le))
