-- A value with its earlier states.
use Rattle.std.specs.Prelude.{◌≡◌, ◌≤◌, ℕ, Bool, cond, List, [], ◌∷◌, ◌++◌, length, take, map, slice_index_or}
use Rattle.std.specs.List.{AllByRecursion}

-- the present state, and the states before it, the oldest first
pub record History (A : Type 0) : Type 0 where
  pub present : A
  pub earlier : List A

module _ {A : Type 0} where
  -- one state more: the one that was present becomes the last of the earlier ones
  abbrev pub with_state : History A → A → History A
  with_state h now = record { present = now; earlier = h.earlier ++ h.present ∷ [] }

  -- another present state, while the one before it isn't kept
  abbrev pub with_present : History A → A → History A
  with_present h now = record { present = now; earlier = h.earlier }

  -- another present state, while the one before it is kept or not
  abbrev pub with_change : Bool → History A → A → History A
  with_change kept h now = record { present = now; earlier = h.earlier ++ cond kept (h.present ∷ []) [] }

  -- back at a mark, which is a number of earlier states: that state is present, with those before it
  abbrev pub back_at : History A → ℕ → History A
  back_at h mark = record { present = slice_index_or h.earlier mark h.present; earlier = take mark h.earlier }

  -- the present state alone
  abbrev pub present_alone : History A → History A
  present_alone h = record { present = h.present; earlier = [] }

  -- a history that goes on from an old one: each mark of the old one, that of its present state too, brings back the same
  pub record Extends (old new : History A) : Type 0 where
    pub longer : length old.earlier ≤ length new.earlier
    pub back : (mark : ℕ) → mark ≤ length old.earlier → back_at new mark ≡ back_at old mark

  -- a property of each state
  pub record EachState (P : A → Type 0) (h : History A) : Type 0 where
    pub present : P h.present
    pub earlier : AllByRecursion P h.earlier

-- the history of what is seen of each state
abbrev pub seen_by : {A B : Type 0} → (A → B) → History A → History B
seen_by f h = record { present = f h.present; earlier = map f h.earlier }
