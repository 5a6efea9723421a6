-- A part of a cell that isn't what its sheet has there is no item's.
use Rattle.std.proofs.Common.{◌≡◌, ℕ, List, arith}
use Rattle.std.specs.Int.{to_be_bytes, w64}
use Rattle.dv_cells.specs.declared.item.Item.{Item}
use Rattle.dv_cells.specs.declared.item.Item.TheVariants.{User, Team, Member, Gift, Grant, Removal}
use Rattle.dv_cells.specs.Bytes.{flagged_bytes, pair_bytes, rights_bytes, Fits64, FitsFlagged, FitsPair, FitsRights}
use Rattle.dv_cells.specs.Items.{sheet_of, key_of, value_of, IsCellOf, IsItem}

-- the bytes are those of nothing of this kind
abbrev pub IsNone : {A : Type 0} → (A → List ℕ) → (A → Type 0) → List ℕ → Type 0
IsNone {A} spell Fits bytes = (a : A) → Fits a → bytes ≡ spell a → ⊥

-- the cell is no item's
abbrev pub HasNoItem : ℕ → List ℕ → List ℕ → Type 0
HasNoItem sheet key value = (item : Item) → IsCellOf sheet key value item → ⊥

module _ (key value : List ℕ) where
  pub no_user : IsNone flagged_bytes FitsFlagged value → HasNoItem 4 key value
  unfolding sheet_of key_of value_of IsItem
  no_user none (User id unit enabled) is = none (unit, enabled) (is.is_item.1, tt) is.value_is
  no_user none item is = absurd (omega (arith, is.sheet_is))

  pub no_team : IsNone flagged_bytes FitsFlagged value → HasNoItem 5 key value
  unfolding sheet_of key_of value_of IsItem
  no_team none (Team id unit access) is = none (unit, access) (is.is_item.1, tt) is.value_is
  no_team none item is = absurd (omega (arith, is.sheet_is))

  pub no_member : IsNone pair_bytes FitsPair key → HasNoItem 6 key value
  unfolding sheet_of key_of value_of IsItem
  no_member none (Member team user) is = none (team, user) is.is_item is.key_is
  no_member none item is = absurd (omega (arith, is.sheet_is))

  pub no_gift : IsNone pair_bytes FitsPair key → HasNoItem 8 key value
  unfolding sheet_of key_of value_of IsItem
  no_gift none (Gift principal role) is = none (principal, role) is.is_item is.key_is
  no_gift none item is = absurd (omega (arith, is.sheet_is))

  pub no_grant : IsNone rights_bytes FitsRights value → HasNoItem 10 key value
  unfolding sheet_of key_of value_of IsItem
  no_grant none (Grant at direct inherited) is = none (direct, inherited) is.is_item.1 is.value_is
  no_grant none item is = absurd (omega (arith, is.sheet_is))

  pub no_removal : IsNone (to_be_bytes w64) Fits64 value → HasNoItem 11 key value
  unfolding sheet_of key_of value_of IsItem
  no_removal none (Removal at version) is = none version is.is_item.1 is.value_is
  no_removal none item is = absurd (omega (arith, is.sheet_is))
