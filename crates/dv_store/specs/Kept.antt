-- How a store keeps its world: with lists of rows beside it, and with counts.
use Rattle.std.specs.Prelude.{◌≡◌, ⊤, ◌<◌, ◌≤◌, ◌^◌, ℕ, Bool, true, false, not, ◌&&◌, ◌||◌, ◌==◌, Option, None, Some, List, [], ◌∷◌, ◌++◌, is_some, flat_map, if◌then◌else◌, refl}
use Rattle.std.specs.List.{list_any}
use Rattle.std.specs.Coded.{Coded, code_by, coded×, coded_ℕ, coded_list}
use Rattle.std.specs.FinMap as map
use Rattle.std.specs.FinSet as set
use Rattle.dv_value.specs.declared.id.Id.{Id}
use Rattle.dv_work.specs.Entries.{Ascends, value_at}
use Rattle.dv_work.specs.History.{History}
use Rattle.dv_store.specs.declared.item.Item.{Item}
use Rattle.dv_store.specs.declared.item.Item.TheVariants as item
use Rattle.dv_store.specs.declared.item.Totals.{Totals}
use Rattle.dv_store.specs.declared.keys.RowKey.{RowKey}
use Rattle.dv_store.specs.declared.keys.GrantKey.{GrantKey}
use Rattle.dv_store.specs.declared.keys.DirtyKey.{DirtyKey}
use Rattle.dv_store.specs.declared.keys.Place.TheVariants.{Row, Grant, Removal, Dirty, Counters}
use Rattle.dv_store.specs.declared.keys.By.{By}
use Rattle.dv_store.specs.declared.keys.By.TheVariants as by
use Rattle.dv_store.specs.declared.keys.Listing.{Listing}
use Rattle.dv_store.specs.declared.keys.Entry.{Entry}
use Rattle.dv_store.specs.declared.keys.Key.{Key}
use Rattle.dv_store.specs.declared.keys.Key.TheVariants.{At, In}
use Rattle.dv_store.specs.declared.row.Row.{Row as RowOf}
use Rattle.dv_store.specs.declared.shape.Link.{Link}
use Rattle.dv_store.specs.declared.shape.Shape.{Shape}
use Rattle.dv_store.specs.contracts.keys.Entry as entry_type
use Rattle.dv_store.specs.Keys.{key_cmp, entry_cmp, at_counters, grant_key, named_list, shared_list}
use Rattle.dv_store.specs.Shapes.{is_tracked}
use Rattle.dv_store.specs.World.{World, is_none, with_removal, own, own_unless, fed, without_grants, world_code, names, named_in, row_at, with_each, row_total, grant_total, most_rows, most_grants, GrantsStand}
use Rattle.dv_store.specs.Cursors.{owner_place}

abbrev pub Cells : Type 0
Cells = List (Key × Item)

-- the item of a key
abbrev pub at : Cells → Key → Option Item
at es k = value_at key_cmp k es

-- the entries that a reading gives
abbrev pub front : {A : Type 0} → Option A → List A → List A
front None xs = xs
front (Some x) xs = x ∷ xs

abbrev pub picked : {A : Type 0} → (Key → Item → Option A) → Cells → List A
picked read [] = []
picked read (e ∷ es) = front (read e.0 e.1) (picked read es)

-- each kind of cell
abbrev pub as_row : Key → Item → Option (RowKey × RowOf)
as_row (At (Row key)) (item.Row row) = Some (key, row)
as_row k x = None

abbrev pub as_grant : Key → Item → Option (GrantKey × (ℕ × ℕ))
as_grant (At (Grant key)) (item.Grant direct inherited) = Some (key, (direct, inherited))
as_grant k x = None

abbrev pub as_removal : Key → Item → Option (RowKey × ℕ)
as_removal (At (Removal key)) (item.Removal version) = Some (key, version)
as_removal k x = None

abbrev pub as_dirty : Key → Item → Option (DirtyKey × Unit {0})
as_dirty (At (Dirty key)) item.Present = Some (key, tt)
as_dirty k x = None

abbrev pub as_entry : Key → Item → Option (Entry × Unit {0})
as_entry (In key) item.Present = Some (key, tt)
as_entry k x = None

-- what a cell of each kind has
abbrev pub row_in : Option Item → Option RowOf
row_in (Some (item.Row row)) = Some row
row_in x = None

abbrev pub grant_in : Option Item → Option (ℕ × ℕ)
grant_in (Some (item.Grant direct inherited)) = Some (direct, inherited)
grant_in x = None

abbrev pub removal_in : Option Item → Option ℕ
removal_in (Some (item.Removal version)) = Some version
removal_in x = None

abbrev pub present_in : Option Item → Option (Unit {0})
present_in (Some item.Present) = Some tt
present_in x = None

abbrev pub totals_in : Option Item → Totals
totals_in (Some (item.Totals totals)) = totals
totals_in x = record { version = 0; last_id = 0; floor = 0; rows = 0; grants = 0 }

-- a world, the rows in lists, and the counts of rows and removals together and of grants
pub record Kept : Type 0 where
  pub world : World
  pub listed : set.FinSet entry_cmp
  pub rows : ℕ
  pub grants : ℕ

-- what cells keep
abbrev pub kept_of : Shape → Cells → Kept
kept_of shape es = let totals = totals_in (at es at_counters) in record {
  world = record {
    shape = shape;
    rows = map.from_entries (picked as_row es);
    grants = map.from_entries (picked as_grant es);
    removals = map.from_entries (picked as_removal es);
    dirty = map.from_entries (picked as_dirty es);
    version = totals.version;
    last_id = totals.last_id;
    floor = totals.floor;
  };
  listed = map.from_entries (picked as_entry es);
  rows = totals.rows;
  grants = totals.grants;
}

-- nothing yet
abbrev pub nothing : Shape → Kept
nothing shape = record {
  world = record { shape = shape; rows = map.empty; grants = map.empty; removals = map.empty; dirty = map.empty; version = 0; last_id = 0; floor = 0 };
  listed = map.empty;
  rows = 0;
  grants = 0;
}

-- a map with another value at a key, or none
abbrev pub with_entry : {K V : Type 0} {R : K → K → Rattle.std.specs.declared.cmp.Ordering.Ordering} → map.FinMap R V → K → Option V → map.FinMap R V
with_entry m k None = map.remove m k
with_entry m k (Some v) = map.insert m k v

-- what is kept, with another cell at a key, or none
abbrev pub kept_with : Kept → Key → Option Item → Kept
kept_with p (At (Row key)) x = record p { world = record p.world { rows = with_entry p.world.rows key (row_in x) } }
kept_with p (At (Grant key)) x = record p { world = record p.world { grants = with_entry p.world.grants key (grant_in x) } }
kept_with p (At (Removal key)) x = record p { world = record p.world { removals = with_entry p.world.removals key (removal_in x) } }
kept_with p (At (Dirty key)) x = record p { world = record p.world { dirty = with_entry p.world.dirty key (present_in x) } }
kept_with p (At Counters) x = let totals = totals_in x in record {
  world = record p.world { version = totals.version; last_id = totals.last_id; floor = totals.floor };
  listed = p.listed;
  rows = totals.rows;
  grants = totals.grants;
}
kept_with p (In key) x = record p { listed = with_entry p.listed key (present_in x) }

-- what is kept, with other totals
abbrev pub totals_item : Totals → Option Item
totals_item totals = Some (item.Totals totals)

abbrev pub with_totals : Kept → Totals → Kept
with_totals p totals = kept_with p at_counters (totals_item totals)

-- an item is of the kind of its key
abbrev pub IsOf : Key → Option Item → Type 0
IsOf k None = ⊤
IsOf (At (Row key)) (Some (item.Row row)) = ⊤
IsOf (At (Grant key)) (Some (item.Grant direct inherited)) = ⊤
IsOf (At (Removal key)) (Some (item.Removal version)) = ⊤
IsOf (At (Dirty key)) (Some item.Present) = ⊤
IsOf (At Counters) (Some (item.Totals totals)) = ⊤
IsOf (In key) (Some item.Present) = ⊤
IsOf k (Some x) = ⊥

-- the keys ascend, and each item is of its key's kind
pub record IsOrdered (es : Cells) : Type 0 where
  pub ordered : Ascends key_cmp es
  pub typed : (k : Key) → IsOf k (at es k)

-- the item of what has nothing more to say
abbrev pub present_if : Bool → Option Item
present_if true = Some item.Present
present_if false = None

-- the counters and the counts
abbrev pub totals_of : Kept → Totals
totals_of p = record { version = p.world.version; last_id = p.world.last_id; floor = p.world.floor; rows = p.rows; grants = p.grants }

-- whether rows are listed by what stands at a place
abbrev pub is_link : ℕ → ℕ → Link → Bool
is_link table place link = (link.child == table) && (place == link.place)

abbrev pub is_watched : Shape → ℕ → ℕ → Bool
is_watched shape table place = (place == owner_place) || list_any (is_link table place) shape.links

-- whether a row stands in a list
abbrev pub is_listed_by : World → Listing → Id → By → Bool
is_listed_by w list id by.Grant = is_some (map.get w.grants (grant_key list.table id list.of))
is_listed_by w list id (by.Place place) = is_watched w.shape list.table place && names (row_at w.rows list.table id) place list.of

abbrev pub is_listed : World → Entry → Bool
is_listed w e = is_listed_by w e.list e.id e.list.by

-- The lists are right, the counts are right and within the limits, and each grant stands on a row.
pub record IsWell (p : Kept) : Type 0 where
  pub listed : (e : Entry) → map.contains_key p.listed e ≡ is_listed p.world e
  pub rows : p.rows ≡ row_total p.world
  pub grants : p.grants ≡ grant_total p.world
  pub few_rows : p.rows ≤ most_rows
  pub few_grants : p.grants ≤ most_grants
  pub version : p.world.version < 2 ^ 63
  pub stand : GrantsStand p.world

-- what is kept is stored as its parts
abbrev pub kept_code : Coded Kept
kept_code = code_by (World × (set.FinSet entry_cmp × (ℕ × ℕ))) (coded× world_code (coded× (set.code {R = entry_cmp} (entry_type.the_row).coded) (coded× coded_ℕ coded_ℕ)))
    (λ p. (p.world, (p.listed, (p.rows, p.grants)))) (λ q. record { world = q.0; listed = q.1.0; rows = q.1.1.0; grants = q.1.1.1 }) (λ _. refl)

abbrev pub kept_history_code : Coded (History Kept)
kept_history_code = code_by (Kept × List Kept) (coded× kept_code (coded_list kept_code)) (λ h. (h.present, h.earlier)) (λ p. record { present = p.0; earlier = p.1 }) (λ _. refl)

-- the entry of a row in the list of what it names at a place
abbrev pub entry_by : RowKey → ℕ → Option Id → List Entry
entry_by key place None = []
entry_by key place (Some of) = record { list = named_list key.table place of; id = key.id } ∷ []

abbrev pub entry_at : RowKey → Option RowOf → ℕ → List Entry
entry_at key row place = entry_by key place (named_in row place)

-- the entries of a row by its lookups, and by its owner
abbrev pub entry_of : RowKey → Option RowOf → Link → List Entry
entry_of key row link = if link.child == key.table then entry_at key row link.place else []

abbrev pub entries_of : Shape → RowKey → Option RowOf → List Entry
entries_of shape key row = entry_at key row owner_place ++ flat_map (entry_of key row) shape.links

-- what is kept, with rows listed or not
abbrev pub with_listed : Kept → Bool → List Entry → Kept
with_listed p present entries = record p { listed = with_each present entries p.listed }

-- what is kept, with rollups dirty or not
abbrev pub with_marks : Kept → Bool → List DirtyKey → Kept
with_marks p present keys = record p { world = record p.world { dirty = with_each present keys p.world.dirty } }

-- what is kept, with a row and its entries in the place of the one before
abbrev pub with_row_alone : Kept → RowKey → Option RowOf → Kept
with_row_alone p key row = record p { world = record p.world { rows = with_entry p.world.rows key row } }

abbrev pub with_row : Kept → RowKey → RowOf → Kept
with_row p key row =
    let before = entries_of p.world.shape key (map.get p.world.rows key) in
    let rows = map.insert p.world.rows key row in
    let after = entries_of p.world.shape key (map.get rows key) in
    with_listed (with_row_alone (with_listed p false before) key (Some row)) true after

-- the item of a grant, if its rights aren't zeros
abbrev pub grant_item : ℕ → ℕ → Option Item
grant_item direct inherited = if is_none direct inherited then None else Some (item.Grant direct inherited)

-- what is kept, with the rights of a grant, and it in its list or not
abbrev pub with_grant : Kept → GrantKey → ℕ → ℕ → Kept
with_grant p key direct inherited = record {
  world = record p.world { grants = with_entry p.world.grants key (grant_in (grant_item direct inherited)) };
  listed = with_entry p.listed (record { list = shared_list key.row.table key.principal; id = key.row.id }) (present_in (present_if (not (is_none direct inherited))));
  rows = p.rows;
  grants = p.grants;
}

-- what is kept, with the removal of a row on a table with tracking
abbrev pub with_removal_left : Kept → RowKey → Kept
with_removal_left p key = record p { world = record p.world { removals = with_removal p.world key } }

-- whether a removed row leaves a removal where there was none
abbrev pub adds_removal : World → RowKey → Bool
adds_removal w key = is_tracked w.shape key.table && not (map.contains_key w.removals key)

-- what is kept without a row, with the marks that its removal makes, and its removal
abbrev pub with_row_gone : Kept → RowKey → Kept
with_row_gone p key =
    let w = p.world in
    let entries = entries_of w.shape key (map.get w.rows key) in
    record {
      world = record w {
        rows = map.remove w.rows key;
        dirty = with_each false (own w.shape key) (with_each true (fed w.shape w.rows key) w.dirty);
        removals = with_removal w key;
      };
      listed = with_each false entries p.listed;
      rows = p.rows;
      grants = p.grants;
    }

-- a world without the grants on a row
abbrev pub with_grants_gone : World → RowKey → World
with_grants_gone w key = record w { grants = without_grants w.grants key }

-- what is kept, with another count of rows and removals, or of grants
abbrev pub with_rows : Kept → ℕ → Kept
with_rows p rows = record p { rows = rows }

abbrev pub with_count : Kept → ℕ → Kept
with_count p grants = record p { grants = grants }

-- what putting a row makes of what is kept: the marks by the row before, its removal, the row in its lists, the marks
-- by the new row, and for a row that wasn't there its own
abbrev pub row_made : Kept → RowKey → RowOf → ℕ → Bool → Kept
row_made p key row rows there =
    let a = with_rows p rows in
    let b = with_marks a true (fed a.world.shape a.world.rows key) in
    let c = record b { world = record b.world { removals = map.remove b.world.removals key } } in
    let d = with_row c key row in
    let e = with_marks d true (fed d.world.shape d.world.rows key) in
    with_marks e true (own_unless there e.world.shape key)

-- the world of what is kept
abbrev pub world_in : Kept → World
world_in p = p.world

-- a step of the present state: what it makes of the world, all else being right still
pub record Steps (old new : History Kept) (w : World) : Type 0 where
  pub world : new.present.world ≡ w
  pub well : IsWell new.present
  pub earlier : new.earlier ≡ old.earlier

-- the same with the state before it kept
pub record Moves (old new : History Kept) (w : World) : Type 0 where
  pub world : new.present.world ≡ w
  pub well : IsWell new.present
  pub earlier : new.earlier ≡ old.earlier ++ old.present ∷ []
