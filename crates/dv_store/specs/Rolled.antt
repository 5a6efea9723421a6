-- What a calculated rollup makes of its row.
use Rattle.std.specs.Prelude.{ℕ, ◌+◌, Bool, Option, None, Some, List, slice_set, pos, ℤ, if◌then◌else◌}
use Rattle.std.specs.FinMap as map
use Rattle.dv_value.specs.declared.value.Value.{Value}
use Rattle.dv_value.specs.declared.value.Value.TheVariants.{Whole, Amount, Moment}
use Rattle.dv_store.specs.declared.keys.RowKey.{RowKey}
use Rattle.dv_store.specs.declared.row.Row.{Row}
use Rattle.dv_store.specs.Shapes.{place_of, is_owned}
use Rattle.dv_store.specs.World.{World}

-- the place of the version among a row's values, which stands behind the owner where rows have owners
abbrev pub version_place : Bool → ℕ
version_place owned = if owned then 6 else 5

-- the values with another one at a place; a place that isn't there is ignored
abbrev pub with_value : List Value → ℕ → Value → List Value
with_value values place value = slice_set values place value

-- a row with a calculated rollup: its value, its state behind it and its date behind that, and the present version
abbrev pub row_rolled : World → ℕ → ℕ → Value → ℤ → ℤ → Row → Row
row_rolled w table column value state date row = record {
  values = with_value (with_value (with_value (with_value row.values (place_of column) value) (place_of column + 1) (Whole state)) (place_of column + 2) (Moment date)) (version_place (is_owned w.shape table)) (Amount (pos w.version));
}

-- the rows with that row where it is there
abbrev pub rows_rolled : World → RowKey → ℕ → Value → ℤ → ℤ → Option Row → map.FinMap Rattle.dv_store.specs.Keys.row_cmp Row
rows_rolled w key column value state date None = w.rows
rows_rolled w key column value state date (Some row) = map.insert w.rows key (row_rolled w key.table column value state date row)

-- A rollup calculated: its row carries it and the present version, and it isn't dirty any more. Nothing becomes dirty.
unfoldable pub rolled : World → RowKey → ℕ → Value → ℤ → ℤ → World
rolled w key column value state date = record w {
  rows = rows_rolled w key column value state date (map.get w.rows key);
  dirty = map.remove w.dirty (record { row = key; column = column });
}
