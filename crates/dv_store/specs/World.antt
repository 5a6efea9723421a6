-- What a store holds, and what each change makes of it.
use Rattle.std.specs.Prelude.{◌≡◌, ℕ, ◌+◌, Bool, true, false, not, ◌&&◌, ◌==◌, Option, None, Some, IsSome, is_some, List, [], ◌∷◌, flat_map, slice_get, if◌then◌else◌, refl, nat_lt}
use Rattle.std.specs.Option.{unwrap_or}
use Rattle.std.specs.declared.cmp.Ordering.{Ordering}
use Rattle.std.specs.Coded.{Coded, code_by, coded×, coded_ℕ, coded_list}
use Rattle.std.specs.FinMap as map
use Rattle.std.specs.FinSet as set
use Rattle.dv_value.specs.declared.id.Id.{Id}
use Rattle.dv_value.specs.declared.value.Value.{Value}
use Rattle.dv_value.specs.declared.value.Value.TheVariants.{Ref}
use Rattle.dv_refusal.specs.declared.what.What.{What}
use Rattle.dv_schema.specs.declared.definition.Definition.{Definition}
use Rattle.dv_work.specs.History.{History}
use Rattle.dv_store.specs.declared.fault.StoreFault.{StoreFault}
use Rattle.dv_store.specs.declared.fault.StoreFault.TheVariants.{Limit, OutOfMemory}
use Rattle.dv_store.specs.declared.keys.RowKey.{RowKey}
use Rattle.dv_store.specs.declared.keys.GrantKey.{GrantKey}
use Rattle.dv_store.specs.declared.keys.DirtyKey.{DirtyKey}
use Rattle.dv_store.specs.declared.row.Row.{Row}
use Rattle.dv_store.specs.declared.shape.Feed.{Feed}
use Rattle.dv_store.specs.declared.shape.Shape.{Shape}
use Rattle.dv_store.specs.contracts.keys.RowKey as row_key_type
use Rattle.dv_store.specs.contracts.keys.GrantKey as grant_key_type
use Rattle.dv_store.specs.contracts.keys.DirtyKey as dirty_key_type
use Rattle.dv_store.specs.contracts.row.Row as row_type
use Rattle.dv_store.specs.contracts.shape.Shape as shape_type
use Rattle.dv_store.specs.Keys.{row_cmp, grant_cmp, dirty_cmp, row_key, grant_key, is_row}
use Rattle.dv_store.specs.Shapes.{shape_of, is_owned, is_tracked}

-- rows by their places, and the direct and inherited rights of grants by theirs
abbrev pub Rows : Type 0
Rows = map.FinMap row_cmp Row

abbrev pub Grants : Type 0
Grants = map.FinMap grant_cmp (ℕ × ℕ)

-- the versions at which rows were removed, and the rollups that have to be calculated
abbrev pub Removals : Type 0
Removals = map.FinMap row_cmp ℕ

abbrev pub Dirty : Type 0
Dirty = set.FinSet dirty_cmp

-- what is kept of the definition; rows, grants, removals and dirty rollups; the version counter, the id counter and
-- the floor below which removals are forgotten
pub record World : Type 0 where
  pub shape : Shape
  pub rows : Rows
  pub grants : Grants
  pub removals : Removals
  pub dirty : Dirty
  pub version : ℕ
  pub last_id : ℕ
  pub floor : ℕ

-- the world of a definition in which nothing was done
abbrev pub empty : Definition → World
empty d = record { shape = shape_of d; rows = map.empty; grants = map.empty; removals = map.empty; dirty = map.empty; version = 0; last_id = 0; floor = 0 }

-- the row of a table and an id
abbrev pub row_at : Rows → ℕ → Id → Option Row
row_at rows table id = map.get rows (row_key table id)

-- whether it is there
abbrev pub is_there : Rows → RowKey → Bool
is_there rows key = is_some (map.get rows key)

-- the direct and the inherited rights that a principal was granted on a row; zeros where there is no grant
abbrev pub grant_at : Grants → ℕ → Id → Id → ℕ × ℕ
grant_at grants table id principal = unwrap_or (map.get grants (grant_key table id principal)) (0, 0)

-- the id that a value names
abbrev pub named_by : Option Value → Option Id
named_by (Some (Ref id)) = Some id
named_by value = None

-- the id that the value at a place of a row names
abbrev pub named_at : Row → ℕ → Option Id
named_at row place = named_by (slice_get row.values place)

-- the id that a row names at a place, if the row is there and names one
abbrev pub named_in : Option Row → ℕ → Option Id
named_in None place = None
named_in (Some row) place = named_at row place

-- whether it is a given one
abbrev pub is_id : Id → Option Id → Bool
is_id id None = false
is_id id (Some other) = id.0 == other.0

abbrev pub names : Option Row → ℕ → Id → Bool
names row place id = is_id id (named_in row place)

-- the rollup of a feed at the row that is named, where that row is there
abbrev pub fed_at : Rows → Feed → Option Id → List DirtyKey
fed_at rows feed None = []
fed_at rows feed (Some parent) = if is_there rows (row_key feed.parent parent) then record { row = row_key feed.parent parent; column = feed.column } ∷ [] else []

-- the rollup of a feed that the row of a key goes into
abbrev pub fed_in : Rows → RowKey → Feed → List DirtyKey
fed_in rows key feed = if feed.child == key.table then fed_at rows feed (named_in (map.get rows key) feed.place) else []

-- the rollups that the row of a key goes into: those of the rows that it names, where they are there
abbrev pub fed : Shape → Rows → RowKey → List DirtyKey
fed shape rows key = flat_map (fed_in rows key) shape.feeds

-- the rollups of a row's own
abbrev pub own_of : RowKey → Feed → List DirtyKey
own_of key feed = if feed.parent == key.table then record { row = key; column = feed.column } ∷ [] else []

abbrev pub own : Shape → RowKey → List DirtyKey
own shape key = flat_map (own_of key) shape.feeds

-- a set with a key, or without it
abbrev pub with_key : {K : Type 0} {R : K → K → Ordering} → Bool → set.FinSet R → K → set.FinSet R
with_key true s k = map.insert s k tt
with_key false s k = map.remove s k

-- a set with each item of a list, or without each
abbrev pub with_each : {K : Type 0} {R : K → K → Ordering} → Bool → List K → set.FinSet R → set.FinSet R
with_each present [] s = s
with_each present (k ∷ ks) s = with_each present ks (with_key present s k)

-- the rollups of a row that is new
abbrev pub own_unless : Bool → Shape → RowKey → List DirtyKey
own_unless true shape key = []
own_unless false shape key = own shape key

-- A row put, where there was one or not. A removal of its id goes. Dirty become the rollups that the row before went
-- into, those that the new one goes into, and for a new row all of its own.
unfoldable pub row_put : World → RowKey → Row → World
row_put w key row =
    let rows = map.insert w.rows key row in
    record w {
      rows = rows;
      removals = map.remove w.removals key;
      dirty = with_each true (own_unless (is_there w.rows key) w.shape key) (with_each true (fed w.shape rows key) (with_each true (fed w.shape w.rows key) w.dirty));
    }

-- without the grants on a row
abbrev pub without_grants : Grants → RowKey → Grants
without_grants grants key = map.retain_keys grants (λ grant. not (is_row grant.row key))

-- with a removal of the present version, on a table with tracking
abbrev pub with_removal : World → RowKey → Removals
with_removal w key = if is_tracked w.shape key.table then map.insert w.removals key w.version else w.removals

-- A row removed, with its grants and its dirty rollups. Dirty become the rollups that it went into.
unfoldable pub row_removed : World → RowKey → World
row_removed w key = record w {
  rows = map.remove w.rows key;
  grants = without_grants w.grants key;
  removals = with_removal w key;
  dirty = with_each false (own w.shape key) (with_each true (fed w.shape w.rows key) w.dirty);
}

-- the rights of a grant set; zeros are no grant
abbrev pub is_none : ℕ → ℕ → Bool
is_none direct inherited = (direct == 0) && (inherited == 0)

unfoldable pub grant_set : World → GrantKey → ℕ → ℕ → World
grant_set w key direct inherited = record w {
  grants = if is_none direct inherited then map.remove w.grants key else map.insert w.grants key (direct, inherited);
}

-- whether the removal of a key is of a version up to a floor
abbrev pub is_up_to : ℕ → Option ℕ → Bool
is_up_to floor None = false
is_up_to floor (Some version) = not (nat_lt floor version)

-- the floor raised, and the removals up to it dropped
unfoldable pub floor_raised : World → ℕ → World
floor_raised w floor = record w {
  removals = map.retain_keys w.removals (λ key. not (is_up_to floor (map.get w.removals key)));
  floor = floor;
}

-- the next version, and the next id, given out
abbrev pub bumped : World → World
bumped w = record w { version = w.version + 1 }

abbrev pub id_drawn : World → World
id_drawn w = record w { last_id = w.last_id + 1 }

-- how many rows and removals there are
abbrev pub row_total : World → ℕ
row_total w = map.len w.rows + map.len w.removals

abbrev pub grant_total : World → ℕ
grant_total w = map.len w.grants

-- the limits
abbrev pub most_rows : ℕ
most_rows = 200000

abbrev pub most_grants : ℕ
most_grants = 500000

-- what comes of a refusal: the limit, where it would be passed, or else that memory ran out
abbrev pub fault_at : Bool → What → StoreFault
fault_at true what = Limit what
fault_at false what = OutOfMemory

-- each grant stands on a row that is there, of a table whose rows have owners
pub record Stands (w : World) (grant : GrantKey) : Type 0 where
  pub row : is_there w.rows grant.row ≡ true
  pub owned : is_owned w.shape grant.row.table ≡ true

abbrev pub GrantsStand : World → Type 0
GrantsStand w = (grant : GrantKey) → IsSome (map.get w.grants grant) → Stands w grant

-- a world is stored as its parts
abbrev pub world_code : Coded World
world_code = code_by (Shape × (Rows × (Grants × (Removals × (Dirty × (ℕ × (ℕ × ℕ)))))))
    (coded× (shape_type.the_row).coded (coded× (map.code {R = row_cmp} (row_key_type.the_row).coded (row_type.the_row).coded) (coded× (map.code {R = grant_cmp} (grant_key_type.the_row).coded (coded× coded_ℕ coded_ℕ)) (coded× (map.code {R = row_cmp} (row_key_type.the_row).coded coded_ℕ) (coded× (set.code {R = dirty_cmp} (dirty_key_type.the_row).coded) (coded× coded_ℕ (coded× coded_ℕ coded_ℕ)))))))
    (λ w. (w.shape, (w.rows, (w.grants, (w.removals, (w.dirty, (w.version, (w.last_id, w.floor))))))))
    (λ p. record { shape = p.0; rows = p.1.0; grants = p.1.1.0; removals = p.1.1.1.0; dirty = p.1.1.1.1.0; version = p.1.1.1.1.1.0; last_id = p.1.1.1.1.1.1.0; floor = p.1.1.1.1.1.1.1 }) (λ _. refl)

abbrev pub history_code : Coded (History World)
history_code = code_by (World × List World) (coded× world_code (coded_list world_code)) (λ h. (h.present, h.earlier)) (λ p. record { present = p.0; earlier = p.1 }) (λ _. refl)
