use Rattle.std.proofs.Common.{◌≡◌, ◌+◌, ◌-◌, ◌^◌, ◌<◌, IsSome}
use Rattle.std.specs.Prelude.{true, Some}
use Rattle.std.specs.FinMap as map
use Rattle.dv_store.specs.declared.keys.RowKey.{RowKey}
use Rattle.dv_store.specs.Keys.{row_cmp}
use Rattle.dv_store.specs.World.{is_up_to}
use Rattle.dv_store.specs.Cursors.{IsPastBy}
use Rattle.dv_store.specs.Raised.{removals_dropped, place_number}
use Rattle.dv_store.specs.Kept.{IsWell}
use Rattle.dv_store.proofs.raising.drop_removals.Given as goal

abbrev pub invariant-loop-key : goal.invariant-loop-key
invariant-loop-key l = record {
  well : IsWell l.cells.present;
  earlier : l.cells.earlier ≡ l.fn.cells.earlier;
  rest : removals_dropped l.cells.present.world l.floor ≡ removals_dropped l.fn.cells.present.world l.floor;
  past : (q : RowKey) → IsSome (map.get l.cells.present.world.removals q) → is_up_to l.floor (map.get l.cells.present.world.removals q) ≡ true → IsPastBy row_cmp l.after q;
  fits : (k : RowKey) → l.after ≡ Some k → k.id.0 < 2 ^ 128;
}

abbrev pub decreases-loop-key : goal.decreases-loop-key
decreases-loop-key l = 2 ^ 144 + 1 - place_number l.after
