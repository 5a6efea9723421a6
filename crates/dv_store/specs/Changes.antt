-- The places of the world that changed.
use Rattle.std.specs.Prelude.{◌≡◌, Bool, false, List, [], ◌∷◌, flat_map}
use Rattle.std.specs.List.{list_any}
use Rattle.std.specs.List.Sorted.{IsStrictlySortedBy}
use Rattle.std.specs.Ordering.{is_eq}
use Rattle.std.specs.FinMap as map
use Rattle.dv_store.specs.declared.keys.Place.{Place}
use Rattle.dv_store.specs.declared.keys.Place.TheVariants.{Row, Grant, Removal, Dirty, Counters}
use Rattle.dv_store.specs.declared.keys.Key.{Key}
use Rattle.dv_store.specs.declared.keys.Key.TheVariants.{At, In}
use Rattle.dv_store.specs.Keys.{place_cmp}
use Rattle.dv_store.specs.World.{World}

-- the same three counters
pub record HasSameCounters (old new : World) : Type 0 where
  pub version : new.version ≡ old.version
  pub last_id : new.last_id ≡ old.last_id
  pub floor : new.floor ≡ old.floor

-- a place has what it had
abbrev pub IsSameAt : World → World → Place → Type 0
IsSameAt old new (Row key) = map.get new.rows key ≡ map.get old.rows key
IsSameAt old new (Grant key) = map.get new.grants key ≡ map.get old.grants key
IsSameAt old new (Removal key) = map.get new.removals key ≡ map.get old.removals key
IsSameAt old new (Dirty key) = map.contains_key new.dirty key ≡ map.contains_key old.dirty key
IsSameAt old new Counters = HasSameCounters old new

-- whether a place is told
abbrev pub is_told : List Place → Place → Bool
is_told places place = list_any (λ other. is_eq (place_cmp place other)) places

-- each place once, in order, and those that aren't told have what they had
pub record AreChanges (old new : World) (places : List Place) : Type 0 where
  pub once : IsStrictlySortedBy place_cmp places
  pub told : (place : Place) → is_told places place ≡ false → IsSameAt old new place

-- the place of a key, if it is one of the world
abbrev pub place_in : Key → List Place
place_in (At place) = place ∷ []
place_in (In entry) = []

-- the places of the world among the keys of entries
abbrev pub places_of : {V : Type 0} → List (Key × V) → List Place
places_of entries = flat_map (λ e. place_in e.0) entries
