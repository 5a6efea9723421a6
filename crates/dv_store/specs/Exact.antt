-- The order of the keys tells them apart.
use Rattle.std.proofs.Common.{◌≡◌, refl, sym, ap, ◌∙◌, false}
use mathlib.Core.Bool.{true≢false}
use Rattle.std.specs.declared.cmp.Ordering.{Ordering}
use Rattle.std.specs.declared.cmp.Ordering.TheVariants.{Less, Equal, Greater}
use Rattle.std.specs.Ordering.{nat_cmp, is_eq, ordering_then}
use Rattle.std.proofs.lemmas.Map.Lookups.{exact_unsigned}
use Rattle.dv_value.specs.declared.id.Id.{Id}
use Rattle.dv_store.specs.declared.keys.RowKey.{RowKey}
use Rattle.dv_store.specs.declared.keys.GrantKey.{GrantKey}
use Rattle.dv_store.specs.declared.keys.DirtyKey.{DirtyKey}
use Rattle.dv_store.specs.declared.keys.Place.{Place}
use Rattle.dv_store.specs.declared.keys.Place.TheVariants.{Row, Grant, Removal, Dirty, Counters}
use Rattle.dv_store.specs.declared.keys.By.{By}
use Rattle.dv_store.specs.declared.keys.By.TheVariants as by
use Rattle.dv_store.specs.contracts.keys.ByOrd.TheImpl as by_order
use Rattle.dv_store.specs.declared.keys.Listing.{Listing}
use Rattle.dv_store.specs.contracts.keys.ListingOrd.TheImpl as list_order
use Rattle.dv_store.specs.declared.keys.Entry.{Entry}
use Rattle.dv_store.specs.contracts.keys.EntryOrd.TheImpl as entry_order
use Rattle.dv_store.specs.declared.keys.Key.{Key}
use Rattle.dv_store.specs.declared.keys.Key.TheVariants.{At, In}
use Rattle.dv_store.specs.Keys.{row_cmp, grant_cmp, dirty_cmp, place_cmp, key_cmp}

then-Equal : (r s : Ordering) → ordering_then r s ≡ Equal → (r ≡ Equal) × (s ≡ Equal)
then-Equal Less s e = absurd (true≢false (ap is_eq (sym e)))
then-Equal Equal s e = (refl, e)
then-Equal Greater s e = absurd (true≢false (ap is_eq (sym e)))

other : {A : Type 0} (r : Ordering) → is_eq r ≡ false → r ≡ Equal → A
other r apart e = absurd (true≢false (sym (ap is_eq e) ∙ apart))

pub exact_id : (a b : Id) → nat_cmp a.0 b.0 ≡ Equal → a ≡ b
exact_id a b e = let p = exact_unsigned a.0 b.0 e in λ j. record { 0 = p j }

pub exact_row : (a b : RowKey) → row_cmp a b ≡ Equal → a ≡ b
exact_row a b e =
    let p = then-Equal _ _ e in
    let t = exact_unsigned a.table b.table p.0 in
    let i = exact_id a.id b.id p.1 in
    λ j. record { table = t j; id = i j }

pub exact_grant : (a b : GrantKey) → grant_cmp a b ≡ Equal → a ≡ b
exact_grant a b e =
    let p = then-Equal _ _ e in
    let r = exact_row a.row b.row p.0 in
    let i = exact_id a.principal b.principal p.1 in
    λ j. record { row = r j; principal = i j }

pub exact_dirty : (a b : DirtyKey) → dirty_cmp a b ≡ Equal → a ≡ b
exact_dirty a b e =
    let p = then-Equal _ _ e in
    let r = exact_row a.row b.row p.0 in
    let i = exact_unsigned a.column b.column p.1 in
    λ j. record { row = r j; column = i j }

exact_by : (a b : By) → by_order.ghosts.cmp a b ≡ Equal → a ≡ b
exact_by by.Grant by.Grant e = refl
exact_by by.Grant (by.Place q) e = other _ refl e
exact_by (by.Place p) by.Grant e = other _ refl e
exact_by (by.Place p) (by.Place q) e = ap by.Place (exact_unsigned p q e)

pub exact_list : (a b : Listing) → list_order.ghosts.cmp a b ≡ Equal → a ≡ b
exact_list a b e =
    let p = then-Equal _ _ e in
    let q = then-Equal _ _ p.1 in
    let t = exact_unsigned a.table b.table p.0 in
    let y = exact_by a.by b.by q.0 in
    let i = exact_id a.of b.of q.1 in
    λ j. record { table = t j; by = y j; of = i j }

pub exact_entry : (a b : Entry) → entry_order.ghosts.cmp a b ≡ Equal → a ≡ b
exact_entry a b e =
    let p = then-Equal _ _ e in
    let l = exact_list a.list b.list p.0 in
    let i = exact_id a.id b.id p.1 in
    λ j. record { list = l j; id = i j }

pub exact_place : (a b : Place) → place_cmp a b ≡ Equal → a ≡ b
exact_place (Row a) (Row b) e = ap Row (exact_row a b e)
exact_place (Grant a) (Grant b) e = ap Grant (exact_grant a b e)
exact_place (Removal a) (Removal b) e = ap Removal (exact_row a b e)
exact_place (Dirty a) (Dirty b) e = ap Dirty (exact_dirty a b e)
exact_place Counters Counters e = refl
exact_place a b e = other _ refl e

pub exact : (a b : Key) → key_cmp a b ≡ Equal → a ≡ b
exact (At a) (At b) e = ap At (exact_place a b e)
exact (In a) (In b) e = ap In (exact_entry a b e)
exact a b e = other _ refl e
