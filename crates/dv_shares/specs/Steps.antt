-- What the calls do row by row. The proofs show that it comes to what Grants says.
use Rattle.std.specs.Prelude.{List, [], ◌∷◌, if◌then◌else◌}
use Rattle.std.specs.FinMap as fin
use Rattle.dv_value.specs.declared.id.Id.{Id}
use Rattle.dv_store.specs.declared.keys.RowKey.{RowKey}
use Rattle.dv_store.specs.declared.keys.GrantKey.{GrantKey}
use Rattle.dv_store.specs.Keys.{is_row}
use Rattle.dv_store.specs.World.{World, grant_set}
use Rattle.dv_shares.specs.declared.change.Change.{Change}
use Rattle.dv_shares.specs.Rights.{are_same, changed, rights_of}
use Rattle.dv_shares.specs.Grants.{can_have_grants, on_row}

-- one grant changed
unfoldable pub grant_changed : Change → GrantKey → World → World
grant_changed change key w =
    let before = rights_of (fin.get w.grants key) in
    let after = changed change before in
    if are_same after before then w else grant_set w key after.direct after.inherited

-- the grant on a row, if the row can have grants
abbrev pub one_changed : Id → Change → RowKey → World → World
one_changed principal change row w = if can_have_grants w row then grant_changed change (on_row principal row) w else w

-- the same, if the row isn't the target
abbrev pub other_changed : RowKey → Id → Change → RowKey → World → World
other_changed target principal change row w = if is_row row target then w else one_changed principal change row w

-- the grants on the rows of a set other than the target
unfoldable pub others_changed : RowKey → Id → Change → List RowKey → World → World
others_changed target principal change [] w = w
others_changed target principal change (row ∷ rows) w = others_changed target principal change rows (other_changed target principal change row w)
