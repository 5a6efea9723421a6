-- A calculated rollup put into its row.
use Rattle.std.proofs.Common.{◌≡◌, ℕ, ◌+◌, [], ◌∷◌, refl, ap, ◌∙◌}
use Rattle.std.specs.Prelude.{true, false, Some, ℤ}
use Rattle.std.specs.FinMap as map
use Rattle.dv_value.specs.declared.value.Value.{Value}
use Rattle.dv_store.specs.declared.keys.RowKey.{RowKey}
use Rattle.dv_store.specs.declared.keys.DirtyKey.{DirtyKey}
use Rattle.dv_store.specs.declared.row.Row.{Row}
use Rattle.dv_store.specs.World.{is_there}
use Rattle.dv_store.specs.Rolled.{rolled, row_rolled, rows_rolled}
use Rattle.dv_store.specs.Kept.{Kept, with_row, with_marks, IsWell}
use Rattle.dv_store.proofs.KeptLaws.{row_total}
use Rattle.dv_store.proofs.Counts.{len_with}
use Rattle.dv_store.proofs.Puts.{IsWell-with_row}

module _ (p : Kept) (key : RowKey) (column : ℕ) where
  abbrev own : DirtyKey
  own = record { row = key; column = column }

  abbrev made : Row → Kept
  made row = with_marks (with_row p key row) false (own ∷ [])

  pub world-rolled : (value : Value) (state date : ℤ) (old new : Row) → Some old ≡ map.get p.world.rows key → new ≡ row_rolled p.world key.table column value state date old → (made new).world ≡ rolled p.world key column value state date
  unfolding rolled
  world-rolled value state date old new was is =
      ap (λ row. record p.world { rows = map.insert p.world.rows key row; dirty = map.remove p.world.dirty own }) is
      ∙ ap (λ x. record p.world { rows = rows_rolled p.world key column value state date x; dirty = map.remove p.world.dirty own }) was

  pub IsWell-rolled : (new : Row) → IsWell p → is_there p.world.rows key ≡ true → IsWell (made new)
  IsWell-rolled new well there =
      let same : map.len p.world.rows ≡ map.len (map.insert p.world.rows key new) = len_with row_total p.world.rows key new (map.len p.world.rows) true refl there in
      let counted : p.rows ≡ map.len (map.insert p.world.rows key new) + map.len p.world.removals = well.rows ∙ ap (λ n. n + map.len p.world.removals) same in
      let w = IsWell-with_row p key new well p.rows counted well.few_rows in
      record { listed = w.listed; rows = w.rows; grants = w.grants; few_rows = w.few_rows; few_grants = w.few_grants; version = w.version; stand = λ grant h. let s = w.stand grant h in record { row = s.row; owned = s.owned } }
