-- A row put or taken: its lists, the counts and the grants that stand.
use Rattle.std.proofs.Common.{◌≡◌, ℕ, ◌+◌, ◌-◌, ◌≤◌, refl, sym, ap, ◌∙◌, arith, is_some}
use mathlib.Core.Bool.{true≢false}
use Rattle.std.specs.Prelude.{Bool, true, false, cond, not, ◌&&◌, ◌||◌, Option, None, Some}
use Rattle.std.specs.List.{list_any}
use Rattle.std.specs.Ordering.{is_eq, eq_by_cmp}
use Rattle.std.specs.Cmp.{Equal-is, tied_itself}
use Rattle.std.proofs.Math.Bool.{and-false}
use Rattle.std.specs.FinMap as map
use Rattle.dv_store.specs.declared.keys.By.{By}
use Rattle.dv_store.specs.declared.keys.By.TheVariants as by
use Rattle.dv_store.specs.declared.keys.Entry.{Entry}
use Rattle.dv_store.specs.declared.keys.RowKey.{RowKey}
use Rattle.dv_store.specs.declared.row.Row.{Row}
use Rattle.dv_store.specs.declared.shape.Shape.{Shape}
use Rattle.dv_store.specs.Keys.{entry_cmp, row_cmp, grant_cmp, row_key, grant_key, is_row}
use Rattle.dv_store.specs.Exact.{exact_row}
use Rattle.dv_store.specs.World.{World, Rows, row_put, most_rows, is_there, names, with_each, Stands}
use Rattle.dv_store.specs.World as world
use Rattle.dv_store.specs.Kept.{Kept, nothing, row_made, with_row, entries_of, is_listed, is_listed_by, is_watched, IsWell}
use Rattle.dv_store.proofs.KeptLaws.{row_total, entry_total}
use Rattle.dv_store.proofs.Counts.{len_with, len_without}
use Rattle.dv_store.proofs.Listings.{contains-with_each, contains-without_each, any-entries_of, lists}

-- the counts
pub row_total-row_put : (w : World) (key : RowKey) (row : Row) (b : Bool) → is_there w.rows key ≡ b
    → cond b (map.len w.rows + map.len (map.remove w.removals key)) (map.len w.rows + map.len (map.remove w.removals key) + 1) ≡ world.row_total (row_put w key row)
unfolding row_put
row_total-row_put w key row true is =
    let n : map.len w.rows ≡ map.len (map.insert w.rows key row) = len_with row_total w.rows key row (map.len w.rows) true refl is in
    ap (λ n. n + map.len (map.remove w.removals key)) n
row_total-row_put w key row false is =
    let n : map.len w.rows + 1 ≡ map.len (map.insert w.rows key row) = len_with row_total w.rows key row (map.len w.rows) false refl is in
    omega (arith, n)

less_or_same : (n m : ℕ) (b : Bool) → cond b (n - 1) n ≡ m → m ≤ n
less_or_same n m true e = omega (arith, e)
less_or_same n m false e = omega (arith, e)

pub few_rows_without : (p : Kept) (key : RowKey) → IsWell p → map.len p.world.rows + map.len (map.remove p.world.removals key) ≤ 200000
few_rows_without p key well =
    let le = less_or_same (map.len p.world.removals) (map.len (map.remove p.world.removals key)) (map.contains_key p.world.removals key) (len_without row_total p.world.removals key (map.len p.world.removals) (map.contains_key p.world.removals key) refl refl) in
    omega (arith, le, well.rows, well.few_rows)

-- the lists
again : (a b c : Bool) → ((true && (a && c)) || (not (true && (a && b)) && (a && b))) ≡ (a && c)
again true true true = refl
again true true false = refl
again true false true = refl
again true false false = refl
again false b c = refl

-- the lists after the row of one key changed
module _ (shape : Shape) (key : RowKey) (rows new : Rows) (others : (q : RowKey) → is_row q key ≡ false → map.get new q ≡ map.get rows q) (e : Entry) where
  abbrev at : RowKey
  at = row_key e.list.table e.id

  pub relisted : (p : ℕ) (h : Bool) → is_row at key ≡ h
      → ((h && (is_watched shape e.list.table p && names (map.get new key) p e.list.of)) || (not (h && (is_watched shape e.list.table p && names (map.get rows key) p e.list.of)) && (is_watched shape e.list.table p && names (map.get rows at) p e.list.of)))
      ≡ (is_watched shape e.list.table p && names (map.get new at) p e.list.of)
  relisted p true is =
      let k : at ≡ key = exact_row at key ((Equal-is _).0 is) in
      ap (λ q. (true && (is_watched shape e.list.table p && names (map.get new key) p e.list.of)) || (not (true && (is_watched shape e.list.table p && names (map.get rows key) p e.list.of)) && (is_watched shape e.list.table p && names (map.get rows q) p e.list.of))) k
      ∙ again (is_watched shape e.list.table p) (names (map.get rows key) p e.list.of) (names (map.get new key) p e.list.of)
      ∙ ap (λ q. is_watched shape e.list.table p && names (map.get new q) p e.list.of) (sym k)
  relisted p false is = ap (λ row. is_watched shape e.list.table p && names row p e.list.of) (sym (others at is))

insert_others : (rows : Rows) (key : RowKey) (row : Row) (q : RowKey) → is_row q key ≡ false → map.get (map.insert rows key row) q ≡ map.get rows q
insert_others rows key row q apart = map.get-insert row_total rows key row q ∙ ap (λ b. cond b (Some row) (map.get rows q)) apart

remove_others : (rows : Rows) (key : RowKey) (q : RowKey) → is_row q key ≡ false → map.get (map.remove rows key) q ≡ map.get rows q
remove_others rows key q apart = map.get-remove row_total rows key q ∙ ap (λ b. cond b None (map.get rows q)) apart

-- the lists after a row was put in the place of another
pub put_listed : (p : Kept) (key : RowKey) (row : Row) → ((e : Entry) → map.contains_key p.listed e ≡ is_listed p.world e) → (e : Entry)
    → map.contains_key (with_row p key row).listed e ≡ is_listed (with_row p key row).world e
put_listed p key row listed e =
    let shape = p.world.shape in
    let before = entries_of shape key (map.get p.world.rows key) in
    let rows = map.insert p.world.rows key row in
    let after = entries_of shape key (map.get rows key) in
    contains-with_each entry_total after (with_each false before p.listed) e
    ∙ ap (λ b. list_any (eq_by_cmp entry_cmp e) after || b) (contains-without_each entry_total before p.listed e)
    ∙ ap (λ b. b || (not (list_any (eq_by_cmp entry_cmp e) before) && map.contains_key p.listed e)) (any-entries_of shape key (map.get rows key) e)
    ∙ ap (λ b. lists shape key (map.get rows key) e e.list.by || (not b && map.contains_key p.listed e)) (any-entries_of shape key (map.get p.world.rows key) e)
    ∙ ap (λ b. lists shape key (map.get rows key) e e.list.by || (not (lists shape key (map.get p.world.rows key) e e.list.by) && b)) (listed e)
    ∙ by_kind e.list.by
  where
    by_kind : (b : By) → (lists p.world.shape key (map.get (map.insert p.world.rows key row) key) e b || (not (lists p.world.shape key (map.get p.world.rows key) e b) && is_listed_by p.world e.list e.id b)) ≡ is_listed_by (with_row p key row).world e.list e.id b
    by_kind by.Grant = refl
    by_kind (by.Place q) = relisted p.world.shape key p.world.rows (map.insert p.world.rows key row) (insert_others p.world.rows key row) e q (is_row (row_key e.list.table e.id) key) refl

-- the lists after a row was taken
pub gone_listed : (p : Kept) (key : RowKey) → ((e : Entry) → map.contains_key p.listed e ≡ is_listed p.world e) → (e : Entry)
    → map.contains_key (with_each false (entries_of p.world.shape key (map.get p.world.rows key)) p.listed) e ≡ is_listed (record p.world { rows = map.remove p.world.rows key }) e
gone_listed p key listed e =
    let shape = p.world.shape in
    let before = entries_of shape key (map.get p.world.rows key) in
    contains-without_each entry_total before p.listed e
    ∙ ap (λ b. not b && map.contains_key p.listed e) (any-entries_of shape key (map.get p.world.rows key) e)
    ∙ ap (λ b. not (lists shape key (map.get p.world.rows key) e e.list.by) && b) (listed e)
    ∙ by_kind e.list.by
  where
    gone : map.get (map.remove p.world.rows key) key ≡ None
    gone = map.get-remove row_total p.world.rows key key ∙ ap (λ r. cond (is_eq r) None (map.get p.world.rows key)) (tied_itself row_total key)

    none : (h w : Bool) (q : ℕ) (x : Bool) → x ≡ ((h && (w && false)) || x)
    none true true q x = refl
    none true false q x = refl
    none false w q x = refl

    by_kind : (b : By) → (not (lists p.world.shape key (map.get p.world.rows key) e b) && is_listed_by p.world e.list e.id b) ≡ is_listed_by (record p.world { rows = map.remove p.world.rows key }) e.list e.id b
    by_kind by.Grant = refl
    by_kind (by.Place q) =
        none (is_row (row_key e.list.table e.id) key) (is_watched p.world.shape e.list.table q) q _
        ∙ ap (λ row. (is_row (row_key e.list.table e.id) key && (is_watched p.world.shape e.list.table q && names row q e.list.of)) || (not (lists p.world.shape key (map.get p.world.rows key) e (by.Place q)) && is_listed_by p.world e.list e.id (by.Place q))) (sym gone)
        ∙ relisted p.world.shape key p.world.rows (map.remove p.world.rows key) (remove_others p.world.rows key) e q (is_row (row_key e.list.table e.id) key) refl

-- a row that is there stays there when another is put
stays : (b : Bool) (row : Row) (x : Option Row) → is_some x ≡ true → is_some (cond b (Some row) x) ≡ true
stays true row x h = refl
stays false row x h = h

-- what is kept after a row was put in the place of another is right
pub IsWell-with_row : (p : Kept) (key : RowKey) (row : Row) → IsWell p → (rows : ℕ) → rows ≡ world.row_total (with_row p key row).world → rows ≤ most_rows → IsWell (record (with_row p key row) { rows = rows })
IsWell-with_row p key row well rows is few = record {
  listed = put_listed p key row well.listed;
  rows = is;
  grants = well.grants;
  few_rows = few;
  few_grants = well.few_grants;
  version = well.version;
  stand = λ grant there.
      let s = well.stand grant there in
      record { row = ap is_some (map.get-insert row_total p.world.rows key row grant.row) ∙ stays (is_eq (row_cmp grant.row key)) row (map.get p.world.rows grant.row) s.row; owned = s.owned };
}

-- what putting a row makes of the world, and that it is right
pub world-row_made : (p : Kept) (key : RowKey) (row : Row) (rows : ℕ) → (row_made p key row rows (is_there p.world.rows key)).world ≡ row_put p.world key row
unfolding row_put
world-row_made p key row rows = refl

pub IsWell-row_made : (p : Kept) (key : RowKey) (row : Row) (rows : ℕ) (there : Bool) → IsWell p → rows ≡ world.row_total (row_put p.world key row) → rows ≤ most_rows → IsWell (row_made p key row rows there)
unfolding row_put
IsWell-row_made p key row rows there well is few =
    let made = row_made p key row rows there in
    record {
      listed = put_listed p key row well.listed;
      rows = is;
      grants = well.grants;
      few_rows = few;
      few_grants = well.few_grants;
      version = well.version;
      stand = λ grant here.
          let s = well.stand grant here in
          record { row = ap is_some (map.get-insert row_total p.world.rows key row grant.row) ∙ stays (is_eq (row_cmp grant.row key)) row (map.get p.world.rows grant.row) s.row; owned = s.owned };
    }

-- nothing is right
pub IsWell-nothing : (shape : Shape) → IsWell (nothing shape)
IsWell-nothing shape = record {
  listed = λ e. ap is_some (map.get-empty entry_cmp e) ∙ none_listed e e.list.by;
  rows = let a : 0 ≡ map.len (nothing shape).world.rows = sym (map.len-empty row_cmp Row) in let b : 0 ≡ map.len (nothing shape).world.removals = sym (map.len-empty row_cmp ℕ) in omega (arith, a, b);
  grants = sym (map.len-empty grant_cmp (ℕ × ℕ));
  few_rows = omega arith;
  few_grants = omega arith;
  version = omega arith;
  stand = λ grant there. absurd (true≢false (sym there ∙ ap is_some (map.get-empty grant_cmp grant)));
}
  where
    none_listed : (e : Entry) (b : By) → false ≡ is_listed_by (nothing shape).world e.list e.id b
    none_listed e by.Grant = sym (ap is_some (map.get-empty grant_cmp (grant_key e.list.table e.id e.list.of)))
    none_listed e (by.Place p) =
        sym (and-false (is_watched shape e.list.table p))
        ∙ ap (λ row. is_watched shape e.list.table p && names row p e.list.of) (sym (map.get-empty row_cmp (row_key e.list.table e.id)))
