-- The removals up to a floor, dropped.
use Rattle.std.specs.Prelude.{ℕ, ◌+◌, ◌*◌, ◌^◌, Option, None, Some, not, if◌then◌else◌}
use Rattle.dv_store.specs.Kept.{Kept}
use Rattle.std.specs.FinMap as map
use Rattle.dv_store.specs.declared.keys.RowKey.{RowKey}
use Rattle.dv_store.specs.World.{World, Removals, is_up_to}

-- without the removals up to a floor
abbrev pub without_old : Removals → ℕ → Removals
without_old removals floor = map.retain_keys removals (λ key. not (is_up_to floor (map.get removals key)))

abbrev pub removals_dropped : World → ℕ → World
removals_dropped w floor = record w { removals = without_old w.removals floor }

-- without one removal
abbrev pub removal_gone : World → RowKey → World
removal_gone w key = record w { removals = map.remove w.removals key }

abbrev pub with_removal_gone : Kept → RowKey → Kept
with_removal_gone p key = record p { world = removal_gone p.world key }

-- without one removal, if its version is at most a floor
abbrev pub removal_dropped : World → RowKey → ℕ → World
removal_dropped w key floor = if is_up_to floor (map.get w.removals key) then removal_gone w key else w

-- what is left when the removals past a place were looked at, by the places in the order of table, then id
abbrev pub place_number : Option RowKey → ℕ
place_number None = 0
place_number (Some key) = key.table * 2 ^ 128 + key.id.0 + 1
