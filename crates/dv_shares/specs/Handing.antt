-- What a row hands down to the rows under it, principal by principal, and what comes of that row by row.
use Rattle.std.specs.Prelude.{◌≡◌, ℕ, Bool, IsTrue, ◌&&◌, ◌==◌, Option, None, Some, List, [], ◌∷◌, ◌++◌, map, if◌then◌else◌, false}
use Rattle.std.specs.List.{AllByRecursion, list_any}
use Rattle.std.specs.FinMap as fin
use Rattle.std.specs.Int.RustNames.{bit_or}
use Rattle.dv_value.specs.declared.id.Id.{Id}
use Rattle.dv_store.specs.declared.keys.RowKey.{RowKey}
use Rattle.dv_store.specs.declared.keys.GrantKey.{GrantKey}
use Rattle.dv_store.specs.World.{World}
use Rattle.dv_cascade.specs.Links.{owner_of}
use Rattle.dv_shares.specs.declared.change.Change.TheVariants.{AddInherited, ClearInherited}
use Rattle.dv_shares.specs.declared.heirs.Heir.{Heir}
use Rattle.dv_shares.specs.declared.handing.Share.{Share}
use Rattle.dv_shares.specs.Rights.{regrant}
use Rattle.dv_shares.specs.Grants.{can_have_grants}
use Rattle.dv_shares.specs.Inheriting.{owner_rights, rights_on}
use Rattle.dv_shares.specs.Steps.{one_changed}

-- the rights that a row hands down to a principal: its own on the row, and all where it is the owner
abbrev pub handed_by : World → RowKey → Id → ℕ
handed_by w parent principal = bit_or (bit_or (rights_on w parent principal).direct (rights_on w parent principal).inherited) (owner_rights w parent principal)

-- nothing where there is no parent
abbrev pub handed : World → Option RowKey → Id → ℕ
handed w None principal = 0
handed w (Some parent) principal = handed_by w parent principal

-- the share of a principal in what a row hands down
abbrev pub share_of : World → RowKey → Id → Share
share_of w parent principal = record { principal = principal; mask = handed_by w parent principal }

-- whether a principal has a share
abbrev pub has_share : List Share → Id → Bool
has_share shares principal = list_any (λ share. principal.0 == share.principal.0) shares

-- shares of which each is what a principal gets, and which leave out no principal that gets anything
pub record AreShares (gets : Id → ℕ) (shares : List Share) : Type 0 where
  pub each : AllByRecursion (λ share. share.mask ≡ gets share.principal) shares
  pub all : (principal : Id) → has_share shares principal ≡ false → gets principal ≡ 0

-- behind the shares before, such shares of the principals of which something is so
pub record AddsShares (gets : Id → ℕ) (IsOf : Id → Type 0) (old new : List Share) : Type 0 where
  pub each : AllByRecursion (λ share. share.mask ≡ gets share.principal) old → AllByRecursion (λ share. share.mask ≡ gets share.principal) new
  pub kept : (principal : Id) → IsTrue (has_share old principal) → IsTrue (has_share new principal)
  pub all : (principal : Id) → IsOf principal → IsTrue (has_share new principal)

-- shares added to what is inherited on a row
unfoldable pub each_added : RowKey → List Share → World → World
each_added row [] w = w
each_added row (share ∷ shares) w = each_added row shares (one_changed share.principal (AddInherited share.mask) row w)

-- the shares in what a row hands down
abbrev pub owner_shares : World → RowKey → Option Id → List Share
owner_shares w parent None = []
owner_shares w parent (Some owner) = share_of w parent owner ∷ []

abbrev pub shares_of : World → Option RowKey → List Share
shares_of w None = []
shares_of w (Some parent) = owner_shares w parent (owner_of w parent) ++ map (λ key. share_of w parent key.principal) (fin.keys w.grants)

-- what a row's parent hands down, given to the row; and to each heir in turn
abbrev pub inherits : Heir → World → World
inherits heir w = each_added heir.row (shares_of w heir.parent) w

unfoldable pub all_inherit : List Heir → World → World
all_inherit [] w = w
all_inherit (heir ∷ heirs) w = all_inherit heirs (inherits heir w)

-- what becomes of each grant where all that is inherited on rows goes
abbrev pub cleared_on : World → (RowKey → Bool) → GrantKey → Option (ℕ × ℕ) → Option (ℕ × ℕ)
cleared_on w is_one key grant = if can_have_grants w key.row && is_one key.row then regrant ClearInherited grant else grant
