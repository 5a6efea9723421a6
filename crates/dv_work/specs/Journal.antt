-- What a shelf keeps: a place for each key, which may be empty, and a journal of what each change found.
use Rattle.std.specs.Prelude.{◌≡◌, ℕ, Bool, cond, Option, None, Some, IsSome, List, [], ◌∷◌, count_by}
use Rattle.std.specs.declared.cmp.Ordering.{Ordering}
use Rattle.dv_work.specs.declared.journal.Change.{Change}
use Rattle.dv_work.specs.Entries.{value_at, with_value, without_key}
use Rattle.dv_work.specs.History.{History}

-- the entry of a place in front of others, where the place isn't empty
abbrev pub with_entry : {K V : Type 0} → K → Option V → List (K × V) → List (K × V)
with_entry key None entries = entries
with_entry key (Some value) entries = (key, value) ∷ entries

-- the entries of the places that aren't empty
abbrev pub entries_of : {K V : Type 0} → List (K × Option V) → List (K × V)
entries_of [] = []
entries_of (p ∷ ps) = with_entry p.0 p.1 (entries_of ps)

-- the value in a place that may be missing
abbrev pub value_in : {V : Type 0} → Option (Option V) → Option V
value_in None = None
value_in (Some place) = place

-- how many changes of a journal keep the state before them
abbrev pub kept_count : {K V : Type 0} → List (Change K V) → ℕ
kept_count changes = count_by (λ change. change.kept) changes

module _ {K V : Type 0} (cmp : K → K → Ordering) where
  -- the places with what a key had: no place, or one that may be empty
  abbrev pub with_old_place : K → Option (Option V) → List (K × Option V) → List (K × Option V)
  with_old_place key None places = without_key cmp key places
  with_old_place key (Some place) places = with_value cmp key place places

  -- the places before a change
  abbrev pub before : Change K V → List (K × Option V) → List (K × Option V)
  before change places = with_old_place change.key change.found places

  -- the places before all changes of a journal, of which the last is undone first
  abbrev pub before_all : List (Change K V) → List (K × Option V) → List (K × Option V)
  before_all [] places = places
  before_all (c ∷ cs) places = before c (before_all cs places)

  -- the states that a journal keeps, the oldest first
  abbrev pub states_of : List (Change K V) → List (K × Option V) → List (List (K × V))
  states_of [] places = []
  states_of (c ∷ cs) places = cond c.kept (entries_of (before_all (c ∷ cs) places) ∷ states_of cs places) (states_of cs places)

  -- the present entries, and those of the states before
  abbrev pub history_of : List (K × Option V) → List (Change K V) → History (List (K × V))
  history_of places changes = record { present = entries_of places; earlier = states_of changes places }

  -- a key at which a change found a place has one still, so that undoing the change makes no new place
  abbrev pub HasPlace : Change K V → List (K × Option V) → Type 0
  HasPlace change places = IsSome change.found → IsSome (value_at cmp change.key places)

  -- the same of each change of a journal, when its turn to be undone comes
  abbrev pub HasPlaces : List (Change K V) → List (K × Option V) → Type 0
  HasPlaces [] places = Unit {0}
  HasPlaces (c ∷ cs) places = HasPlace c (before_all cs places) × HasPlaces cs places

  -- a number counts the kept states, and each change can be undone
  pub record IsWhole (kept : ℕ) (places : List (K × Option V)) (changes : List (Change K V)) : Type 0 where
    pub counted : kept ≡ kept_count changes
    pub undoable : HasPlaces changes places
