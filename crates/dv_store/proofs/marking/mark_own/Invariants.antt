use Rattle.std.proofs.Common.{◌≡◌, ◌-◌, length, drop}
use Rattle.std.specs.Prelude.{flat_map}
use Rattle.dv_store.specs.World.{with_each, own_of}
use Rattle.dv_store.proofs.marking.mark_own.Given as goal

abbrev pub invariant-loop-at : goal.invariant-loop-at
invariant-loop-at l = let old = l.initial.cells.present in record {
  others : l.cells.present ≡ record old { world = record old.world { dirty = l.cells.present.world.dirty } };
  earlier : l.cells.earlier ≡ l.initial.cells.earlier;
  dirty : with_each l.present (flat_map (own_of l.key) (drop l.at old.world.shape.feeds)) l.cells.present.world.dirty
      ≡ with_each l.present (flat_map (own_of l.key) old.world.shape.feeds) old.world.dirty;
}

abbrev pub decreases-loop-at : goal.decreases-loop-at
decreases-loop-at l = length l.cells.present.world.shape.feeds - l.at
