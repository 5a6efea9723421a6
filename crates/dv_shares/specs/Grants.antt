-- Grant, revoke and modify: what they make of each grant, all else staying.
use Rattle.std.specs.Prelude.{◌≡◌, ℕ, Bool, ◌&&◌, Option, None, Some, List, [], ◌∷◌, ◌++◌, map, flat_map, if◌then◌else◌}
use Rattle.std.specs.List.{list_any}
use Rattle.std.specs.Ordering.{is_eq}
use Rattle.std.specs.FinMap as fin
use Rattle.dv_value.specs.declared.id.Id.{Id}
use Rattle.dv_store.specs.declared.keys.RowKey.{RowKey}
use Rattle.dv_store.specs.declared.keys.GrantKey.{GrantKey}
use Rattle.dv_store.specs.Keys.{grant_cmp}
use Rattle.dv_store.specs.Shapes.{is_owned}
use Rattle.dv_store.specs.World.{World, Grants, is_there}
use Rattle.dv_shares.specs.declared.change.Change.{Change}
use Rattle.dv_shares.specs.declared.change.Change.TheVariants.{AddDirect, AddInherited, Clear, ClearInherited}
use Rattle.dv_shares.specs.Rights.{regrant}

-- a row can have grants: it is there, and rows of its table have owners
abbrev pub can_have_grants : World → RowKey → Bool
can_have_grants w row = is_there w.rows row && is_owned w.shape row.table

-- the grant of a principal on a row
abbrev pub on_row : Id → RowKey → GrantKey
on_row principal row = record { row = row; principal = principal }

abbrev pub is_on : Id → RowKey → GrantKey → Bool
is_on principal row key = is_eq (grant_cmp key (on_row principal row))

-- whether a grant is that of a principal on a row of a set
abbrev pub is_on_any : Id → List RowKey → GrantKey → Bool
is_on_any principal set key = list_any (λ row. is_on principal row key) set

-- What becomes of each grant: the principal's on the target changes in one way, those on the other rows of the set in
-- another, and all others stay.
abbrev pub shared_at : World → List RowKey → RowKey → Id → Change → Change → GrantKey → Option (ℕ × ℕ) → Option (ℕ × ℕ)
shared_at w set target principal own others key grant =
    if can_have_grants w key.row
    then (if is_on principal target key then regrant own grant else if is_on_any principal set key then regrant others grant else grant)
    else grant

-- grant: a mask joins the direct rights on the target, and the inherited rights on the other rows of the set
abbrev pub granted_at : World → List RowKey → RowKey → Id → ℕ → GrantKey → Option (ℕ × ℕ) → Option (ℕ × ℕ)
granted_at w set target principal mask = shared_at w set target principal (AddDirect mask) (AddInherited mask)

-- revoke: all rights on the target go, and the inherited rights on the other rows of the set
abbrev pub revoked_at : World → List RowKey → RowKey → Id → GrantKey → Option (ℕ × ℕ) → Option (ℕ × ℕ)
revoked_at w set target principal = shared_at w set target principal Clear ClearInherited

-- modify: revoke over one set, then grant over another
abbrev pub modified_at : World → List RowKey → List RowKey → RowKey → Id → ℕ → GrantKey → Option (ℕ × ℕ) → Option (ℕ × ℕ)
modified_at w unshare share target principal mask key grant = granted_at w share target principal mask key (revoked_at w unshare target principal key grant)

-- a world comes of another: each grant is what a rule makes of it, and all else is as before
pub record Regrants (rule : GrantKey → Option (ℕ × ℕ) → Option (ℕ × ℕ)) (old new : World) : Type 0 where
  pub grants : (key : GrantKey) → fin.get new.grants key ≡ rule key (fin.get old.grants key)
  pub rest : new ≡ record old { grants = new.grants }

-- the entry of a grant, if there is one
abbrev pub entry_of : GrantKey → Option (ℕ × ℕ) → List (GrantKey × (ℕ × ℕ))
entry_of key None = []
entry_of key (Some rights) = (key, rights) ∷ []

abbrev pub entry_by : (GrantKey → Option (ℕ × ℕ) → Option (ℕ × ℕ)) → Grants → GrantKey → List (GrantKey × (ℕ × ℕ))
entry_by rule grants key = entry_of key (rule key (fin.get grants key))

-- the grants that a rule makes of those that are there and of those that are named
abbrev pub each_by : (GrantKey → Option (ℕ × ℕ) → Option (ℕ × ℕ)) → List GrantKey → Grants → Grants
each_by rule named grants = fin.from_entries (flat_map (entry_by rule grants) (named ++ fin.keys grants))

-- the world in which each grant is what the rule above makes of it, all else being as before
unfoldable pub shared : List RowKey → RowKey → Id → Change → Change → World → World
shared set target principal own others w = record w { grants = each_by (shared_at w set target principal own others) (map (on_row principal) (target ∷ set)) w.grants }

abbrev pub granted : List RowKey → RowKey → Id → ℕ → World → World
granted set target principal mask w = shared set target principal (AddDirect mask) (AddInherited mask) w

abbrev pub revoked : List RowKey → RowKey → Id → World → World
revoked set target principal w = shared set target principal Clear ClearInherited w

abbrev pub modified : List RowKey → List RowKey → RowKey → Id → ℕ → World → World
modified unshare share target principal mask w = granted share target principal mask (revoked unshare target principal w)
