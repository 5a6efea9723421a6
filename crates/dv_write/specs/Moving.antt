-- A row that gets another parent: where that is handed on, it and the rows under it inherit anew.
use Rattle.std.specs.Prelude.{◌≡◌, ◌&&◌, ℕ, Bool, true, false, not, Option, None, Some, find}
use Rattle.std.specs.Option.{option_map_or}
use Rattle.dv_schema.specs.declared.definition.Definition.{Definition}
use Rattle.dv_schema.specs.Definitions.{relationships_of}
use Rattle.dv_schema.specs.Sound.{hands_on}
use Rattle.dv_store.specs.declared.keys.RowKey.{RowKey}
use Rattle.dv_store.specs.Keys.{is_row}
use Rattle.dv_store.specs.World.{World}
use Rattle.dv_cascade.specs.Circles.{is_parental_of, parent_of}
use Rattle.dv_shares.specs.Inheriting.{Reparents}

-- whether the parental relationship of a table, if it has one, hands new parents on
abbrev pub hands_new_parents : Definition → ℕ → Bool
hands_new_parents d table = option_map_or (λ r. hands_on r.reparent) (find (is_parental_of table) (relationships_of d)) false

-- whether two rows are the same, or both are missing
abbrev pub is_same : Option RowKey → Option RowKey → Bool
is_same None None = true
is_same (Some a) (Some b) = is_row a b
is_same a b = false

-- whether a row, which had a parent or none before, has another one in a world, or none, and this is handed on
abbrev pub is_moved : Definition → RowKey → Option RowKey → World → Bool
is_moved d key before w = hands_new_parents d key.table && not (is_same before (parent_of w d key))

-- what follows where a row's values were set: a row that is moved, and the rows that this reaches, inherit anew
unfoldable pub Settles : Definition → RowKey → Option RowKey → World → World → Type 0
Settles d key before set new = by (is_moved d key before set)
  where
    by : Bool → Type 0
    by true = Reparents d key set new
    by false = new ≡ set
