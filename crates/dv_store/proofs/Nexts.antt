-- What is there among the cells is there among what they keep.
use Rattle.std.proofs.Common.{◌≡◌, refl, sym, ap, ◌∙◌, is_some, IsSome}
use Rattle.std.specs.Prelude.{ℕ, true, Option, None, Some}
use Rattle.std.specs.FinMap as map
use Rattle.std.specs.Ordering.{nat_cmp, ordering_then}
use Rattle.std.specs.Cmp.{nat_cmp_total, tied_itself}
use Rattle.dv_work.specs.Entries.{first_from}
use Rattle.dv_value.specs.declared.id.Id.{Id}
use Rattle.dv_store.specs.declared.item.Item.{Item}
use Rattle.dv_store.specs.declared.item.Item.TheVariants as item
use Rattle.dv_store.specs.declared.keys.RowKey.{RowKey}
use Rattle.dv_store.specs.declared.keys.GrantKey.{GrantKey}
use Rattle.dv_store.specs.declared.keys.DirtyKey.{DirtyKey}
use Rattle.dv_store.specs.declared.keys.Listing.{Listing}
use Rattle.dv_store.specs.declared.keys.Entry.{Entry}
use Rattle.dv_store.specs.declared.keys.Key.{Key}
use Rattle.dv_store.specs.declared.keys.Key.TheVariants.{In}
use Rattle.dv_store.specs.declared.shape.Shape.{Shape}
use Rattle.dv_store.specs.Keys.{key_cmp, row_cmp, list_cmp, at_row, at_grant, at_removal, at_dirty, in_list, row_key}
use Rattle.dv_store.specs.Kept.{Cells, at, row_in, grant_in, removal_in, present_in, kept_of, IsOf, IsOrdered}
use Rattle.dv_store.specs.Cursors.{IsNext}
use Rattle.dv_store.specs.Seeking.{from_id, row_of, removal_of, grant_of, entry_of}
use Rattle.dv_store.proofs.KeptLaws.{row_total, get-rows, get-grants, get-removals, get-dirty, get-listed}
use Rattle.dv_store.proofs.Seeks.{IsNext-alike, found_next, found_none}
use Rattle.dv_store.proofs.Readings.{list_total, reads_row, reads_removal, reads_grant, reads_entry}

row_kind : (q : RowKey) (x : Option Item) → IsOf (at_row q) x → is_some (row_in x) ≡ is_some x
row_kind q None h = refl
row_kind q (Some (item.Row r)) h = refl
row_kind q (Some (item.Grant d i)) h = absurd h
row_kind q (Some (item.Removal v)) h = absurd h
row_kind q (Some (item.Totals t)) h = absurd h
row_kind q (Some item.Present) h = absurd h

grant_kind : (q : GrantKey) (x : Option Item) → IsOf (at_grant q) x → is_some (grant_in x) ≡ is_some x
grant_kind q None h = refl
grant_kind q (Some (item.Row r)) h = absurd h
grant_kind q (Some (item.Grant d i)) h = refl
grant_kind q (Some (item.Removal v)) h = absurd h
grant_kind q (Some (item.Totals t)) h = absurd h
grant_kind q (Some item.Present) h = absurd h

removal_kind : (q : RowKey) (x : Option Item) → IsOf (at_removal q) x → is_some (removal_in x) ≡ is_some x
removal_kind q None h = refl
removal_kind q (Some (item.Row r)) h = absurd h
removal_kind q (Some (item.Grant d i)) h = absurd h
removal_kind q (Some (item.Removal v)) h = refl
removal_kind q (Some (item.Totals t)) h = absurd h
removal_kind q (Some item.Present) h = absurd h

dirty_kind : (q : DirtyKey) (x : Option Item) → IsOf (at_dirty q) x → is_some (present_in x) ≡ is_some x
dirty_kind q None h = refl
dirty_kind q (Some (item.Row r)) h = absurd h
dirty_kind q (Some (item.Grant d i)) h = absurd h
dirty_kind q (Some (item.Removal v)) h = absurd h
dirty_kind q (Some (item.Totals t)) h = absurd h
dirty_kind q (Some item.Present) h = refl

entry_kind : (q : Entry) (x : Option Item) → IsOf (In q) x → is_some (present_in x) ≡ is_some x
entry_kind q None h = refl
entry_kind q (Some (item.Row r)) h = absurd h
entry_kind q (Some (item.Grant d i)) h = absurd h
entry_kind q (Some (item.Removal v)) h = absurd h
entry_kind q (Some (item.Totals t)) h = absurd h
entry_kind q (Some item.Present) h = refl

-- keys that differ in their last part alone
inside : (t : ℕ) (a b : Id) → ordering_then (nat_cmp t t) (nat_cmp a.0 b.0) ≡ nat_cmp a.0 b.0
inside t a b = ap (λ r. ordering_then r (nat_cmp a.0 b.0)) (tied_itself nat_cmp_total t)

of_row : (row : RowKey) (a b : Id) → ordering_then (row_cmp row row) (nat_cmp a.0 b.0) ≡ nat_cmp a.0 b.0
of_row row a b = ap (λ r. ordering_then r (nat_cmp a.0 b.0)) (tied_itself row_total row)

of_list : (list : Listing) (a b : Id) → ordering_then (list_cmp list list) (nat_cmp a.0 b.0) ≡ nat_cmp a.0 b.0
of_list list a b = ap (λ r. ordering_then r (nat_cmp a.0 b.0)) (tied_itself list_total list)

module _ (shape : Shape) (es : Cells) (o : IsOrdered es) where
  pub there-rows : (q : RowKey) → is_some (map.get (kept_of shape es).world.rows q) ≡ is_some (at es (at_row q))
  there-rows q = ap is_some (get-rows shape es o.ordered q) ∙ row_kind q (at es (at_row q)) (o.typed (at_row q))

  pub there-grants : (q : GrantKey) → is_some (map.get (kept_of shape es).world.grants q) ≡ is_some (at es (at_grant q))
  there-grants q = ap is_some (get-grants shape es o.ordered q) ∙ grant_kind q (at es (at_grant q)) (o.typed (at_grant q))

  pub there-removals : (q : RowKey) → is_some (map.get (kept_of shape es).world.removals q) ≡ is_some (at es (at_removal q))
  there-removals q = ap is_some (get-removals shape es o.ordered q) ∙ removal_kind q (at es (at_removal q)) (o.typed (at_removal q))

  pub there-dirty : (q : DirtyKey) → is_some (map.get (kept_of shape es).world.dirty q) ≡ is_some (at es (at_dirty q))
  there-dirty q = ap is_some (get-dirty shape es o.ordered q) ∙ dirty_kind q (at es (at_dirty q)) (o.typed (at_dirty q))

  pub there-listed : (q : Entry) → is_some (map.get (kept_of shape es).listed q) ≡ is_some (at es (In q))
  there-listed q = ap is_some (get-listed shape es o.ordered q) ∙ entry_kind q (at es (In q)) (o.typed (In q))

  -- the next row
  pub next-rows : (table : ℕ) (after : Option Id) (k : Key) (x : Item) → Some (k, x) ≡ first_from key_cmp (from_id (λ id. at_row (row_key table id)) after) es
      → IsNext (λ id. IsSome (map.get (kept_of shape es).world.rows (row_key table id))) after (row_of table k)
  next-rows table after k x is = IsNext-alike _ _ (λ i h. there-rows (row_key table i) ∙ h) (λ i h. sym (there-rows (row_key table i)) ∙ h) after (row_of table k)
      (found_next (λ id. at_row (row_key table id)) (λ a b. inside table a b) after es k x (row_of table k) o.ordered is (reads_row table k))

  pub no-rows : (table : ℕ) (after : Option Id) → None ≡ first_from key_cmp (from_id (λ id. at_row (row_key table id)) after) es
      → IsNext (λ id. IsSome (map.get (kept_of shape es).world.rows (row_key table id))) after None
  no-rows table after is = IsNext-alike _ _ (λ i h. there-rows (row_key table i) ∙ h) (λ i h. sym (there-rows (row_key table i)) ∙ h) after None
      (found_none (λ id. at_row (row_key table id)) (λ a b. inside table a b) after es o.ordered is)

  -- the next removal
  pub next-removals : (table : ℕ) (after : Option Id) (k : Key) (x : Item) → Some (k, x) ≡ first_from key_cmp (from_id (λ id. at_removal (row_key table id)) after) es
      → IsNext (λ id. IsSome (map.get (kept_of shape es).world.removals (row_key table id))) after (removal_of table k)
  next-removals table after k x is = IsNext-alike _ _ (λ i h. there-removals (row_key table i) ∙ h) (λ i h. sym (there-removals (row_key table i)) ∙ h) after (removal_of table k)
      (found_next (λ id. at_removal (row_key table id)) (λ a b. inside table a b) after es k x (removal_of table k) o.ordered is (reads_removal table k))

  pub no-removals : (table : ℕ) (after : Option Id) → None ≡ first_from key_cmp (from_id (λ id. at_removal (row_key table id)) after) es
      → IsNext (λ id. IsSome (map.get (kept_of shape es).world.removals (row_key table id))) after None
  no-removals table after is = IsNext-alike _ _ (λ i h. there-removals (row_key table i) ∙ h) (λ i h. sym (there-removals (row_key table i)) ∙ h) after None
      (found_none (λ id. at_removal (row_key table id)) (λ a b. inside table a b) after es o.ordered is)

  -- the next grant on a row
  pub next-grants : (row : RowKey) (after : Option Id) (k : Key) (x : Item) → Some (k, x) ≡ first_from key_cmp (from_id (λ id. at_grant (record { row = row; principal = id })) after) es
      → IsNext (λ id. IsSome (map.get (kept_of shape es).world.grants (record { row = row; principal = id }))) after (grant_of row k)
  next-grants row after k x is = IsNext-alike _ _ (λ i h. there-grants (record { row = row; principal = i }) ∙ h) (λ i h. sym (there-grants (record { row = row; principal = i })) ∙ h) after (grant_of row k)
      (found_next (λ id. at_grant (record { row = row; principal = id })) (λ a b. of_row row a b) after es k x (grant_of row k) o.ordered is (reads_grant row k))

  pub no-grants : (row : RowKey) (after : Option Id) → None ≡ first_from key_cmp (from_id (λ id. at_grant (record { row = row; principal = id })) after) es
      → IsNext (λ id. IsSome (map.get (kept_of shape es).world.grants (record { row = row; principal = id }))) after None
  no-grants row after is = IsNext-alike _ _ (λ i h. there-grants (record { row = row; principal = i }) ∙ h) (λ i h. sym (there-grants (record { row = row; principal = i })) ∙ h) after None
      (found_none (λ id. at_grant (record { row = row; principal = id })) (λ a b. of_row row a b) after es o.ordered is)

  -- the next row of a list
  pub next-listed : (list : Listing) (after : Option Id) (k : Key) (x : Item) → Some (k, x) ≡ first_from key_cmp (from_id (λ id. in_list list id) after) es
      → IsNext (λ id. map.contains_key (kept_of shape es).listed (record { list = list; id = id }) ≡ true) after (entry_of list k)
  next-listed list after k x is = IsNext-alike _ _ (λ i h. there-listed (record { list = list; id = i }) ∙ h) (λ i h. sym (there-listed (record { list = list; id = i })) ∙ h) after (entry_of list k)
      (found_next (λ id. in_list list id) (λ a b. of_list list a b) after es k x (entry_of list k) o.ordered is (reads_entry list k))

  pub no-listed : (list : Listing) (after : Option Id) → None ≡ first_from key_cmp (from_id (λ id. in_list list id) after) es
      → IsNext (λ id. map.contains_key (kept_of shape es).listed (record { list = list; id = id }) ≡ true) after None
  no-listed list after is = IsNext-alike _ _ (λ i h. there-listed (record { list = list; id = i }) ∙ h) (λ i h. sym (there-listed (record { list = list; id = i })) ∙ h) after None
      (found_none (λ id. in_list list id) (λ a b. of_list list a b) after es o.ordered is)
