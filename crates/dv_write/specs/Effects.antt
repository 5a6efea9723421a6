-- What an effect makes of a world: rows change one after another, and each takes the next version.
use Rattle.std.specs.Prelude.{◌≡◌, ℕ, ◌+◌, ◌-◌, ◌^◌, pos, List, [], ◌∷◌, Option, None, Some, nat_lt}
use Rattle.std.specs.Option.{option_or}
use Rattle.std.specs.FinMap as map
use Rattle.dv_value.specs.declared.value.Value.{Value}
use Rattle.dv_value.specs.declared.value.Value.TheVariants as value
use Rattle.dv_refusal.specs.declared.refusal.Refusal.{Refusal}
use Rattle.dv_refusal.specs.declared.refusal.Refusal.TheVariants as answer
use Rattle.dv_refusal.specs.declared.what.What.TheVariants as what
use Rattle.dv_store.specs.declared.keys.RowKey.{RowKey}
use Rattle.dv_store.specs.declared.row.Row.{Row}
use Rattle.dv_store.specs.Rolled.{version_place, with_value}
use Rattle.dv_store.specs.Shapes.{is_owned}
use Rattle.dv_store.specs.World.{World, row_put, row_removed, bumped, row_total, most_rows}
use Rattle.dv_message.specs.Checked.{refused_if}
use Rattle.dv_message.specs.Scenes.{Setting}
use Rattle.dv_message.specs.Versions.{next_version}
use Rattle.dv_write.specs.declared.change.Change.{Change}
use Rattle.dv_write.specs.declared.change.Edit.{Edit}
use Rattle.dv_write.specs.declared.change.Edit.TheVariants.{Set, Remove}
use Rattle.dv_write.specs.declared.change.Placed.{Placed}

-- values with others put at their places; a place that isn't there is ignored
unfoldable pub with_values : List Value → List Placed → List Value
with_values values [] = values
with_values values (p ∷ ps) = with_values (with_value values p.place p.value) ps

-- a row with values put at their places
abbrev pub edited : List Placed → Row → Row
edited placed row = record { values = with_values row.values placed }

-- a row that carries a version
abbrev pub carrying : World → RowKey → ℕ → Row → Row
carrying w key version row = record { values = with_value row.values (version_place (is_owned w.shape key.table)) (value.Amount (pos version)) }

-- the world with a row put that carries the next version
abbrev pub row_renewed : World → RowKey → Row → World
row_renewed w key row = row_put w key (carrying w key (next_version w) row)

-- What a change makes of the world. The row is put anew and takes the next version; or the next version is taken and
-- then the row goes, so that its removal keeps that version. Where the row isn't there nothing happens.
unfoldable pub row_changed : World → RowKey → Edit → Option Row → World
row_changed w key edit None = w
row_changed w key (Set placed) (Some row) = bumped (row_renewed w key (edited placed row))
row_changed w key Remove (Some row) = row_removed (bumped w) key

-- a change made
abbrev pub changed : World → Change → World
changed w c = row_changed w c.key c.edit (map.get w.rows c.key)

-- an effect: its changes are made one after another
unfoldable pub applied : List Change → World → World
applied [] w = w
applied (c ∷ cs) w = applied cs (changed w c)

-- the limit of versions, where the counter stands at its end
abbrev pub version_limit : World → Option Refusal
version_limit w = refused_if (nat_lt (2 ^ 63 - 1) (w.version + 1)) (answer.Limit what.Version)

-- the limit of rows and removals, where a world is past it
abbrev pub total_limit : World → Option Refusal
total_limit w = refused_if (nat_lt most_rows (row_total w)) (answer.Limit what.Row)

-- the limit that a change would pass: that of rows and removals, or that of versions
unfoldable pub row_limit : World → RowKey → Edit → Option Row → Option Refusal
row_limit w key edit None = None
row_limit w key (Set placed) (Some row) = option_or (total_limit (row_renewed w key (edited placed row))) (version_limit w)
row_limit w key Remove (Some row) = version_limit w

abbrev pub change_limit : World → Change → Option Refusal
change_limit w c = row_limit w c.key c.edit (map.get w.rows c.key)

-- the first limit that an effect would pass
unfoldable pub first_limit : List Change → World → Option Refusal
first_limit [] w = None
first_limit (c ∷ cs) w = option_or (change_limit w c) (first_limit cs (changed w c))

-- the places of the user and of the moment of a row's last change
abbrev pub modified_by_place : ℕ
modified_by_place = 2

abbrev pub modified_on_place : ℕ
modified_on_place = 3

-- the user and the moment of a change
abbrev pub touched : Setting → List Placed
touched s = record { place = modified_by_place; value = value.Ref s.user } ∷ record { place = modified_on_place; value = value.Moment s.moment } ∷ []

-- what limits say one after the other: the one that is computed, or else what the next says
abbrev pub LimitThen : Option Refusal → (Option Refusal → Type 0) → Option Refusal → Type 0
LimitThen (Some refusal) Rest said = said ≡ Some refusal
LimitThen None Rest said = Rest said
