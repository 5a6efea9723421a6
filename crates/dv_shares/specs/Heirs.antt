-- The order in which rows inherit: each behind its parent, if that is one of them.
use Rattle.std.specs.Prelude.{◌≡◌, ◌↔◌, ⊤, IsTrue, Bool, false, not, ◌&&◌, Option, None, Some, List, [], ◌∷◌, ◌++◌, if◌then◌else◌}
use Rattle.std.specs.List.{list_any}
use Rattle.std.specs.BTreeSet.{BTreeSet, contains}
use Rattle.dv_schema.specs.declared.definition.Definition.{Definition}
use Rattle.dv_store.specs.declared.keys.RowKey.{RowKey}
use Rattle.dv_store.specs.Keys.{is_row, row_cmp}
use Rattle.dv_store.specs.World.{World}
use Rattle.dv_cascade.specs.Chains.{is_among}
use Rattle.dv_cascade.specs.Circles.{parent_of, IsUnderParent}
use Rattle.dv_shares.specs.declared.heirs.Heir.{Heir}

-- whether a row is one of those that inherit
abbrev pub is_heir : List Heir → RowKey → Bool
is_heir heirs row = list_any (λ heir. is_row row heir.row) heirs

-- whether a row waits
abbrev pub waits : BTreeSet RowKey → RowKey → Bool
waits waiting row = contains row_cmp waiting row

-- a row, if there is one and it waits
abbrev pub if_waiting : BTreeSet RowKey → Option RowKey → Option RowKey
if_waiting waiting None = None
if_waiting waiting (Some row) = if waits waiting row then Some row else None

-- whether it is a given row
abbrev pub is_it : Option RowKey → RowKey → Bool
is_it None other = false
is_it (Some row) other = is_row other row

-- an heir names its parent: the row that it is under
pub record IsNamed (w : World) (d : Definition) (heir : Heir) : Type 0 where
  pub parent : heir.parent ≡ parent_of w d heir.row
  pub under : (above : RowKey) → (heir.parent ≡ Some above) ↔ IsUnderParent w d heir.row above

-- an heir may stand behind others: it isn't one of them, and its parent is, if that is of the set
pub record MayFollow (w : World) (d : Definition) (set : List RowKey) (before : List Heir) (heir : Heir) : Type 0 where
  pub named : IsNamed w d heir
  pub new : is_heir before heir.row ≡ false
  pub behind : (above : RowKey) → heir.parent ≡ Some above → IsTrue (is_among set above) → IsTrue (is_heir before above)

-- behind those before, each heir may stand where it stands
unfoldable pub ParentsFirst : World → Definition → List RowKey → List Heir → List Heir → Type 0
ParentsFirst w d set before [] = ⊤
ParentsFirst w d set before (heir ∷ heirs) = MayFollow w d set before heir × ParentsFirst w d set (before ++ heir ∷ []) heirs

-- the heirs are the rows of a set, each behind its parent
pub record AreHeirs (w : World) (d : Definition) (set : List RowKey) (heirs : List Heir) : Type 0 where
  pub exactly : (row : RowKey) → is_heir heirs row ≡ is_among set row
  pub parents_first : ParentsFirst w d set [] heirs

-- heirs from below an end down to a row, each the parent of the next
unfoldable pub IsStretch : World → Definition → RowKey → List Heir → Option RowKey → Type 0
IsStretch w d row [] end = end ≡ Some row
IsStretch w d row (heir ∷ heirs) end = (heir.parent ≡ end) × (IsNamed w d heir × ((is_heir heirs heir.row ≡ false) × IsStretch w d row heirs (Some heir.row)))

-- heirs were taken out of those that waited
pub record AreTaken (old new : BTreeSet RowKey) (heirs : List Heir) : Type 0 where
  pub left : (row : RowKey) → waits new row ≡ (waits old row && not (is_heir heirs row))
  pub only : (row : RowKey) → IsTrue (is_heir heirs row) → IsTrue (waits old row)

-- heirs were taken from below an end that didn't wait down to a row
pub record AreClimbed (w : World) (d : Definition) (row : RowKey) (old new : BTreeSet RowKey) (heirs : List Heir) : Type 0 where
  pub end : Option RowKey
  pub stretch : IsStretch w d row heirs end
  pub ended : (above : RowKey) → end ≡ Some above → waits old above ≡ false
  pub taken : AreTaken old new heirs
