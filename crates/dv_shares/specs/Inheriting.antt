-- A new parent: what becomes of the inherited rights on the moved row and on the rows that go with it.
use Rattle.std.specs.Prelude.{◌≡◌, ℕ, Option, None, Some, List, [], ◌∷◌, ◌++◌, map, if◌then◌else◌}
use Rattle.std.specs.FinMap as fin
use Rattle.std.specs.Int.RustNames.{bit_or}
use Rattle.dv_value.specs.declared.id.Id.{Id}
use Rattle.dv_schema.specs.declared.definition.Definition.{Definition}
use Rattle.dv_store.specs.declared.keys.RowKey.{RowKey}
use Rattle.dv_store.specs.declared.keys.GrantKey.{GrantKey}
use Rattle.dv_store.specs.World.{World, is_id}
use Rattle.dv_cascade.specs.declared.cascading.Cascading.TheVariants.{Reparent}
use Rattle.dv_cascade.specs.Chains.{IsReached}
use Rattle.dv_cascade.specs.Circles.{parent_of}
use Rattle.dv_cascade.specs.Links.{Leads, owner_of}
use Rattle.dv_shares.specs.declared.change.Rights.{Rights}
use Rattle.dv_shares.specs.Rights.{are_same, grant_of, rights_of}
use Rattle.dv_shares.specs.Grants.{on_row}

-- all rights together: each right that an action on a row needs but that to create one
abbrev pub all_rights : ℕ
all_rights = 851991

-- the direct and the inherited rights of a principal on a row
abbrev pub rights_on : World → RowKey → Id → Rights
rights_on w row principal = rights_of (fin.get w.grants (on_row principal row))

-- all rights for the owner of a row, and none for others
abbrev pub owner_rights : World → RowKey → Id → ℕ
owner_rights w row principal = if is_id principal (owner_of w row) then all_rights else 0

-- a chain of links from a first row down to a last one, given as the rows above the last one: its parent, that one's
-- parent and so on, up to the first row
unfoldable pub IsChain : (RowKey → RowKey → Type 0) → RowKey → List RowKey → RowKey → Type 0
IsChain Link first [] last = last ≡ first
IsChain Link first (parent ∷ above) last = Link parent last × IsChain Link first above parent

-- masks joined
unfoldable pub union : List ℕ → ℕ
union [] = 0
union (mask ∷ masks) = bit_or mask (union masks)

-- what the new parent gives a principal: its direct and inherited rights on that row, and all rights to the row's owner;
-- an empty parent gives nothing
abbrev pub from_parent : World → Option RowKey → Id → List ℕ
from_parent w None principal = []
from_parent w (Some parent) principal = (rights_on w parent principal).direct ∷ (rights_on w parent principal).inherited ∷ owner_rights w parent principal ∷ []

-- what the rows above give it: its direct rights on each, and all rights to the owner of each
abbrev pub from_above : World → List RowKey → Id → List ℕ
from_above w above principal = map (λ row. (rights_on w row principal).direct) above ++ map (λ row. owner_rights w row principal) above

-- what a principal inherits on a row: all that its new parent and the rows above give
abbrev pub inherited_by : World → Option RowKey → List RowKey → Id → ℕ
inherited_by w parent above principal = union (from_parent w parent principal ++ from_above w above principal)

-- a grant with other inherited rights; it stays where they stay, and zeros are no grant
unfoldable pub inheriting : ℕ → Option (ℕ × ℕ) → Option (ℕ × ℕ)
inheriting mask grant =
    let before = rights_of grant in
    let after : Rights = record { direct = before.direct; inherited = mask } in
    if are_same after before then grant else grant_of after

-- A row inherits anew, with all that came by its old parent gone: by the chain of links from the moved row down to it,
-- each principal inherits what the moved row's new parent and the rows of the chain above it give. Direct rights stay.
pub record InheritsAnew (old new : World) (d : Definition) (moved row : RowKey) : Type 0 where
  pub above : List RowKey
  pub chain : IsChain (Leads old d Reparent) moved above row
  pub grants : (principal : Id) → fin.get new.grants (on_row principal row) ≡ inheriting (inherited_by old (parent_of old d moved) above principal) (fin.get old.grants (on_row principal row))

-- a row has its new parent: each row that this reaches inherits anew, and all else is as before
pub record Reparents (d : Definition) (moved : RowKey) (old new : World) : Type 0 where
  pub reached : (row : RowKey) → IsReached old d Reparent moved row → InheritsAnew old new d moved row
  pub others : (key : GrantKey) → (IsReached old d Reparent moved key.row → ⊥) → fin.get new.grants key ≡ fin.get old.grants key
  pub rest : new ≡ record old { grants = new.grants }
