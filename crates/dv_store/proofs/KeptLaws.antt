-- What cells keep, after a change of one.
use Rattle.std.proofs.Common.{◌≡◌, List, [], refl, sym, ap, subst, ◌∙◌}
use Rattle.std.specs.Prelude.{ℕ, Bool, true, false, cond, Option, None, Some}
use Rattle.std.specs.Ordering.{is_eq}
use Rattle.std.specs.Cmp.{IsTotalOrder, Equal-is}
use Rattle.std.specs.List.Sorted.{IsStrictlySortedBy}
use Rattle.std.specs.FinMap as map
use Rattle.std.specs.FinSet as set
use Rattle.std.specs.FinMap.{find}
use Rattle.dv_work.specs.Entries.{Ascends, with_place}
use Rattle.dv_store.specs.declared.item.Item.{Item}
use Rattle.dv_store.specs.declared.item.Item.TheVariants as item
use Rattle.dv_store.specs.declared.item.Totals.{Totals}
use Rattle.dv_store.specs.declared.keys.RowKey.{RowKey}
use Rattle.dv_store.specs.declared.keys.GrantKey.{GrantKey}
use Rattle.dv_store.specs.declared.keys.DirtyKey.{DirtyKey}
use Rattle.dv_store.specs.declared.keys.Entry.{Entry}
use Rattle.dv_store.specs.declared.keys.Place.TheVariants.{Row, Grant, Removal, Dirty, Counters}
use Rattle.dv_store.specs.declared.keys.Key.{Key}
use Rattle.dv_store.specs.declared.keys.Key.TheVariants.{At, In}
use Rattle.dv_store.specs.declared.row.Row.{Row as RowOf}
use Rattle.dv_store.specs.declared.shape.Shape.{Shape}
use Rattle.dv_store.specs.contracts.keys.RowKeyOrd.TheImpl.Laws as row_laws
use Rattle.dv_store.specs.contracts.keys.GrantKeyOrd.TheImpl.Laws as grant_laws
use Rattle.dv_store.specs.contracts.keys.DirtyKeyOrd.TheImpl.Laws as dirty_laws
use Rattle.dv_store.specs.contracts.keys.EntryOrd.TheImpl.Laws as entry_laws
use Rattle.dv_store.specs.Exact.{exact, exact_row, exact_grant, exact_dirty, exact_entry}
use Rattle.dv_store.specs.Keys.{key_cmp, row_cmp, grant_cmp, dirty_cmp, entry_cmp, at_row, at_grant, at_removal, at_dirty, at_counters}
use Rattle.dv_store.specs.World.{Rows, Grants, Removals, Dirty as DirtyRollups}
use Rattle.dv_store.specs.Kept.{Cells, Kept, at, front, picked, as_row, as_grant, as_removal, as_dirty, as_entry, row_in, grant_in, removal_in, present_in, totals_in, kept_of, kept_with, nothing, IsOf, IsOrdered}
use Rattle.dv_store.proofs.Parts.{either, at-with_place, Ascends-with_place, get-picked, picked-hit, picked-miss}

pub row_total : IsTotalOrder row_cmp
row_total = row_laws.total-law

pub grant_total : IsTotalOrder grant_cmp
grant_total = grant_laws.total-law

pub dirty_total : IsTotalOrder dirty_cmp
dirty_total = dirty_laws.total-law

pub entry_total : IsTotalOrder entry_cmp
entry_total = entry_laws.total-law

twice : {X : Type 0} (b : Bool) (y : X) → y ≡ cond b y y
twice true y = refl
twice false y = refl

reads_row : (q : RowKey) (k : Key) (x : Item) (rest : List (RowKey × RowOf)) → find row_cmp q (front (as_row k x) rest) ≡ cond (is_eq (key_cmp (at_row q) k)) (either (row_in (Some x)) (find row_cmp q rest)) (find row_cmp q rest)
reads_row q (At (Row r)) (item.Row v) rest = refl
reads_row q (At (Row r)) x rest = twice (is_eq (row_cmp q r)) (find row_cmp q rest)
reads_row q k x rest = refl

reads_grant : (q : GrantKey) (k : Key) (x : Item) (rest : List (GrantKey × (ℕ × ℕ))) → find grant_cmp q (front (as_grant k x) rest) ≡ cond (is_eq (key_cmp (at_grant q) k)) (either (grant_in (Some x)) (find grant_cmp q rest)) (find grant_cmp q rest)
reads_grant q (At (Grant r)) (item.Grant d i) rest = refl
reads_grant q (At (Grant r)) x rest = twice (is_eq (grant_cmp q r)) (find grant_cmp q rest)
reads_grant q k x rest = refl

reads_removal : (q : RowKey) (k : Key) (x : Item) (rest : List (RowKey × ℕ)) → find row_cmp q (front (as_removal k x) rest) ≡ cond (is_eq (key_cmp (at_removal q) k)) (either (removal_in (Some x)) (find row_cmp q rest)) (find row_cmp q rest)
reads_removal q (At (Removal r)) (item.Removal v) rest = refl
reads_removal q (At (Removal r)) x rest = twice (is_eq (row_cmp q r)) (find row_cmp q rest)
reads_removal q k x rest = refl

reads_dirty : (q : DirtyKey) (k : Key) (x : Item) (rest : List (DirtyKey × Unit {0})) → find dirty_cmp q (front (as_dirty k x) rest) ≡ cond (is_eq (key_cmp (at_dirty q) k)) (either (present_in (Some x)) (find dirty_cmp q rest)) (find dirty_cmp q rest)
reads_dirty q (At (Dirty r)) item.Present rest = refl
reads_dirty q (At (Dirty r)) x rest = twice (is_eq (dirty_cmp q r)) (find dirty_cmp q rest)
reads_dirty q k x rest = refl

reads_entry : (q : Entry) (k : Key) (x : Item) (rest : List (Entry × Unit {0})) → find entry_cmp q (front (as_entry k x) rest) ≡ cond (is_eq (key_cmp (In q) k)) (either (present_in (Some x)) (find entry_cmp q rest)) (find entry_cmp q rest)
reads_entry q (In r) item.Present rest = refl
reads_entry q (In r) x rest = twice (is_eq (entry_cmp q r)) (find entry_cmp q rest)
reads_entry q k x rest = refl

-- what each map has
module _ (shape : Shape) (es : Cells) (s : Ascends key_cmp es) where
  pub get-rows : (q : RowKey) → map.get (kept_of shape es).world.rows q ≡ row_in (at es (at_row q))
  get-rows q = get-picked row_cmp row_total exact_row as_row at_row row_in refl (λ q p. refl) reads_row es q s

  pub get-grants : (q : GrantKey) → map.get (kept_of shape es).world.grants q ≡ grant_in (at es (at_grant q))
  get-grants q = get-picked grant_cmp grant_total exact_grant as_grant at_grant grant_in refl (λ q p. refl) reads_grant es q s

  pub get-removals : (q : RowKey) → map.get (kept_of shape es).world.removals q ≡ removal_in (at es (at_removal q))
  get-removals q = get-picked row_cmp row_total exact_row as_removal at_removal removal_in refl (λ q p. refl) reads_removal es q s

  pub get-dirty : (q : DirtyKey) → map.get (kept_of shape es).world.dirty q ≡ present_in (at es (at_dirty q))
  get-dirty q = get-picked dirty_cmp dirty_total exact_dirty as_dirty at_dirty present_in refl (λ q p. refl) reads_dirty es q s

  pub get-listed : (q : Entry) → map.get (kept_of shape es).listed q ≡ present_in (at es (In q))
  get-listed q = get-picked entry_cmp entry_total exact_entry as_entry In present_in refl (λ q p. refl) reads_entry es q s

-- what is kept, by its parts
abbrev kept_by : Shape → Rows → Grants → Removals → DirtyRollups → set.FinSet entry_cmp → Totals → Kept
kept_by shape rows grants removals dirty listed totals = record {
  world = record { shape = shape; rows = rows; grants = grants; removals = removals; dirty = dirty; version = totals.version; last_id = totals.last_id; floor = totals.floor };
  listed = listed;
  rows = totals.rows;
  grants = totals.grants;
}

module _ (shape : Shape) (es : Cells) (s : Ascends key_cmp es) where
  -- the maps that a change of another kind of cell leaves
  abbrev new : Key → Option Item → Cells
  new k x = with_place key_cmp k x es

  rows : (k : Key) (x : Option Item) → ((q : RowKey) → is_eq (key_cmp (at_row q) k) ≡ false) → map.from_entries (picked as_row (new k x)) ≡ (kept_of shape es).world.rows
  rows k x apart = picked-miss row_cmp row_total exact_row as_row at_row row_in refl (λ q p. refl) reads_row k x es s apart

  grants : (k : Key) (x : Option Item) → ((q : GrantKey) → is_eq (key_cmp (at_grant q) k) ≡ false) → map.from_entries (picked as_grant (new k x)) ≡ (kept_of shape es).world.grants
  grants k x apart = picked-miss grant_cmp grant_total exact_grant as_grant at_grant grant_in refl (λ q p. refl) reads_grant k x es s apart

  removals : (k : Key) (x : Option Item) → ((q : RowKey) → is_eq (key_cmp (at_removal q) k) ≡ false) → map.from_entries (picked as_removal (new k x)) ≡ (kept_of shape es).world.removals
  removals k x apart = picked-miss row_cmp row_total exact_row as_removal at_removal removal_in refl (λ q p. refl) reads_removal k x es s apart

  dirty : (k : Key) (x : Option Item) → ((q : DirtyKey) → is_eq (key_cmp (at_dirty q) k) ≡ false) → map.from_entries (picked as_dirty (new k x)) ≡ (kept_of shape es).world.dirty
  dirty k x apart = picked-miss dirty_cmp dirty_total exact_dirty as_dirty at_dirty present_in refl (λ q p. refl) reads_dirty k x es s apart

  listed : (k : Key) (x : Option Item) → ((q : Entry) → is_eq (key_cmp (In q) k) ≡ false) → map.from_entries (picked as_entry (new k x)) ≡ (kept_of shape es).listed
  listed k x apart = picked-miss entry_cmp entry_total exact_entry as_entry In present_in refl (λ q p. refl) reads_entry k x es s apart

  totals : (k : Key) (x : Option Item) → is_eq (key_cmp at_counters k) ≡ false → totals_in (at (new k x) at_counters) ≡ totals_in (at es at_counters)
  totals k x apart = ap totals_in (at-with_place k x at_counters es s ∙ ap (λ b. cond b x (at es at_counters)) apart)

  pub kept_of-with_place : (k : Key) (x : Option Item) → kept_of shape (with_place key_cmp k x es) ≡ kept_with (kept_of shape es) k x
  kept_of-with_place (At (Row key)) x =
      let k : Key = At (Row key) in
      let r = picked-hit row_cmp row_total exact_row as_row at_row row_in refl (λ q p. refl) reads_row key x es s in
      let g = grants k x (λ q. refl) in let m = removals k x (λ q. refl) in let d = dirty k x (λ q. refl) in let l = listed k x (λ q. refl) in let t = totals k x refl in
      λ j. kept_by shape (r j) (g j) (m j) (d j) (l j) (t j)
  kept_of-with_place (At (Grant key)) x =
      let k : Key = At (Grant key) in
      let g = picked-hit grant_cmp grant_total exact_grant as_grant at_grant grant_in refl (λ q p. refl) reads_grant key x es s in
      let r = rows k x (λ q. refl) in let m = removals k x (λ q. refl) in let d = dirty k x (λ q. refl) in let l = listed k x (λ q. refl) in let t = totals k x refl in
      λ j. kept_by shape (r j) (g j) (m j) (d j) (l j) (t j)
  kept_of-with_place (At (Removal key)) x =
      let k : Key = At (Removal key) in
      let m = picked-hit row_cmp row_total exact_row as_removal at_removal removal_in refl (λ q p. refl) reads_removal key x es s in
      let r = rows k x (λ q. refl) in let g = grants k x (λ q. refl) in let d = dirty k x (λ q. refl) in let l = listed k x (λ q. refl) in let t = totals k x refl in
      λ j. kept_by shape (r j) (g j) (m j) (d j) (l j) (t j)
  kept_of-with_place (At (Dirty key)) x =
      let k : Key = At (Dirty key) in
      let d = picked-hit dirty_cmp dirty_total exact_dirty as_dirty at_dirty present_in refl (λ q p. refl) reads_dirty key x es s in
      let r = rows k x (λ q. refl) in let g = grants k x (λ q. refl) in let m = removals k x (λ q. refl) in let l = listed k x (λ q. refl) in let t = totals k x refl in
      λ j. kept_by shape (r j) (g j) (m j) (d j) (l j) (t j)
  kept_of-with_place (At Counters) x =
      let k : Key = At Counters in
      let r = rows k x (λ q. refl) in let g = grants k x (λ q. refl) in let m = removals k x (λ q. refl) in let d = dirty k x (λ q. refl) in let l = listed k x (λ q. refl) in
      let t = ap totals_in (at-with_place k x at_counters es s) in
      λ j. kept_by shape (r j) (g j) (m j) (d j) (l j) (t j)
  kept_of-with_place (In key) x =
      let k : Key = In key in
      let l = picked-hit entry_cmp entry_total exact_entry as_entry In present_in refl (λ q p. refl) reads_entry key x es s in
      let r = rows k x (λ q. refl) in let g = grants k x (λ q. refl) in let m = removals k x (λ q. refl) in let d = dirty k x (λ q. refl) in let t = totals k x refl in
      λ j. kept_by shape (r j) (g j) (m j) (d j) (l j) (t j)

-- items of their keys' kinds
is_of_none : (k : Key) → IsOf k None
is_of_none (At (Row key)) = tt
is_of_none (At (Grant key)) = tt
is_of_none (At (Removal key)) = tt
is_of_none (At (Dirty key)) = tt
is_of_none (At Counters) = tt
is_of_none (In key) = tt

typed_cond : (b : Bool) (k : Key) (x y : Option Item) → (b ≡ true → IsOf k x) → IsOf k y → IsOf k (cond b x y)
typed_cond true k x y h p = h refl
typed_cond false k x y h p = p

pub IsOrdered-with_place : (k : Key) (x : Option Item) (es : Cells) → IsOf k x → IsOrdered es → IsOrdered (with_place key_cmp k x es)
IsOrdered-with_place k x es is o = record {
  ordered = Ascends-with_place k x es o.ordered;
  typed = λ q. subst (IsOf q) (sym (at-with_place k x q es o.ordered))
      (typed_cond (is_eq (key_cmp q k)) q x (at es q) (λ tied. subst (λ k. IsOf k x) (sym (exact q k ((Equal-is (key_cmp q k)).0 tied))) is) (o.typed q));
}

pub IsOrdered-none : IsOrdered []
unfolding IsStrictlySortedBy
IsOrdered-none = record { ordered = tt; typed = is_of_none }

pub kept_of-none : (shape : Shape) → kept_of shape [] ≡ nothing shape
kept_of-none shape = refl
