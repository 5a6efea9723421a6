use Rattle.std.proofs.Common.{◌≡◌}
use Rattle.std.specs.Vec.Iter.{into_iter_items}
use Rattle.dv_keeper.specs.Memory.{all_written, held_in, HavePlaces}
use Rattle.dv_keeper.proofs.places.write_places.Given as goal

-- the writes that are left have their places, and with them the cells become those after all writes
abbrev pub invariant-loop-write : goal.invariant-loop-write
invariant-loop-write l = record {
  there : HavePlaces l.places.entries (into_iter_items l.write-iterator);
  held : all_written (into_iter_items l.write-iterator) (held_in l.places.entries) ≡ all_written l.fn.writes.items (held_in l.fn.places.entries);
}
