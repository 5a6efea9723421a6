-- What cursors tell: the least id, or place, past another.
use Rattle.std.specs.Prelude.{◌≡◌, ℕ, ◌<◌, ◌≤◌, ⊤, Option, None, Some, IsSome, slice_get, true}
use Rattle.std.specs.FinMap as map
use Rattle.std.specs.declared.cmp.Ordering.{Ordering}
use Rattle.std.specs.declared.cmp.Ordering.TheVariants.{Less}
use Rattle.std.specs.Int.RustNames.{bit_or}
use Rattle.dv_value.specs.declared.id.Id.{Id}
use Rattle.dv_store.specs.declared.keys.RowKey.{RowKey}
use Rattle.dv_store.specs.declared.keys.DirtyKey.{DirtyKey}
use Rattle.dv_store.specs.declared.shape.Link.{Link}
use Rattle.dv_store.specs.Keys.{row_key, grant_key, row_cmp, dirty_cmp}
use Rattle.dv_store.specs.World.{World, Rows, Grants, Removals, Dirty, row_at, names}

-- past an id, or any id
abbrev pub IsPast : Option Id → Id → Type 0
IsPast None id = ⊤
IsPast (Some after) id = after.0 < id.0

-- the least id past another that is of a kind
pub record IsLeast (IsOf : Id → Type 0) (after : Option Id) (id : Id) : Type 0 where
  pub there : IsOf id
  pub past : IsPast after id
  pub least : (other : Id) → IsOf other → IsPast after other → id.0 ≤ other.0

-- that least id, or none where none is past
abbrev pub IsNext : (Id → Type 0) → Option Id → Option Id → Type 0
IsNext IsOf after None = (id : Id) → IsOf id → IsPast after id → ⊥
IsNext IsOf after (Some id) = IsLeast IsOf after id

-- what a judgement of access is told: the rows and the grants
pub record Told : Type 0 where
  pub rows : Rows
  pub grants : Grants

abbrev pub told_of : World → Told
told_of w = record { rows = w.rows; grants = w.grants }

-- the rows of a table
abbrev pub IsNextRow : Told → ℕ → Option Id → Option Id → Type 0
IsNextRow told table = IsNext (λ id. IsSome (row_at told.rows table id))

-- the place of the owner among a row's values, where rows have owners
abbrev pub owner_place : ℕ
owner_place = 4

-- the rows of a table that an id owns
abbrev pub IsNextOwned : Told → ℕ → Id → Option Id → Option Id → Type 0
IsNextOwned told table owner = IsNext (λ id. names (row_at told.rows table id) owner_place owner ≡ true)

-- the rows of a table on which a principal has a grant
abbrev pub IsNextGranted : Told → ℕ → Id → Option Id → Option Id → Type 0
IsNextGranted told table principal = IsNext (λ id. IsSome (map.get told.grants (grant_key table id principal)))

-- direct and inherited rights, joined
abbrev pub joined : Option (ℕ × ℕ) → Option ℕ
joined None = None
joined (Some rights) = Some (bit_or rights.0 rights.1)

abbrev pub id_of : Option (Id × ℕ) → Option Id
id_of None = None
id_of (Some pair) = Some pair.0

-- the same with the rights of the grant, joined
abbrev pub HasRights : Told → ℕ → Id → Option (Id × ℕ) → Type 0
HasRights told table principal None = ⊤
HasRights told table principal (Some pair) = joined (map.get told.grants (grant_key table pair.0 principal)) ≡ Some pair.1

pub record IsNextShared (told : Told) (table : ℕ) (principal : Id) (after : Option Id) (result : Option (Id × ℕ)) : Type 0 where
  pub id : IsNextGranted told table principal after (id_of result)
  pub rights : HasRights told table principal result

-- the rows that name a parent by a relationship
abbrev pub IsChild : World → Option Link → Id → Id → Type 0
IsChild w None parent id = ⊥
IsChild w (Some link) parent id = names (row_at w.rows link.child id) link.place parent ≡ true

abbrev pub IsNextChild : World → ℕ → Id → Option Id → Option Id → Type 0
IsNextChild w relationship parent = IsNext (IsChild w (slice_get w.shape.links relationship) parent)

-- the principals that have grants on a row
abbrev pub IsNextPrincipal : World → ℕ → Id → Option Id → Option Id → Type 0
IsNextPrincipal w table id = IsNext (λ principal. IsSome (map.get w.grants (grant_key table id principal)))

-- the removals of a table, with their versions
abbrev pub HasVersion : World → ℕ → Option (Id × ℕ) → Type 0
HasVersion w table None = ⊤
HasVersion w table (Some pair) = map.get w.removals (row_key table pair.0) ≡ Some pair.1

pub record IsNextRemoval (w : World) (table : ℕ) (after : Option Id) (result : Option (Id × ℕ)) : Type 0 where
  pub id : IsNext (λ id. IsSome (map.get w.removals (row_key table id))) after (id_of result)
  pub version : HasVersion w table result

-- past a key in an order, or any key
abbrev pub IsPastBy : {K : Type 0} → (K → K → Ordering) → Option K → K → Type 0
IsPastBy R None key = ⊤
IsPastBy R (Some after) key = R after key ≡ Less

-- the least key past another that is of a kind
pub record IsLeastBy {K : Type 0} (R : K → K → Ordering) (IsOf : K → Type 0) (after : Option K) (key : K) : Type 0 where
  pub there : IsOf key
  pub past : IsPastBy R after key
  pub least : (other : K) → IsOf other → IsPastBy R after other → R other key ≡ Less → ⊥

-- that least key, or none where none is past
abbrev pub IsNextBy : {K : Type 0} → (K → K → Ordering) → (K → Type 0) → Option K → Option K → Type 0
IsNextBy {K} R IsOf after None = (key : K) → IsOf key → IsPastBy R after key → ⊥
IsNextBy R IsOf after (Some key) = IsLeastBy R IsOf after key

-- the dirty rollups by row, then column
abbrev pub IsNextDirty : Dirty → Option DirtyKey → Option DirtyKey → Type 0
IsNextDirty dirty = IsNextBy dirty_cmp (λ key. map.contains_key dirty key ≡ true)

-- the removals of all tables by table, then id
abbrev pub IsNextPlace : Removals → Option RowKey → Option RowKey → Type 0
IsNextPlace removals = IsNextBy row_cmp (λ key. IsSome (map.get removals key))
