use Rattle.std.proofs.Common.{◌≡◌, ◌-◌, length, drop}
use Rattle.std.specs.Prelude.{flat_map}
use Rattle.std.specs.FinMap as map
use Rattle.dv_store.specs.World.{with_each}
use Rattle.dv_store.specs.Kept.{entry_of}
use Rattle.dv_store.proofs.listing.list_links.Given as goal

abbrev pub invariant-loop-at : goal.invariant-loop-at
invariant-loop-at l = let old = l.initial.cells.present in record {
  world : l.cells.present.world ≡ old.world;
  rows : l.cells.present.rows ≡ old.rows;
  grants : l.cells.present.grants ≡ old.grants;
  earlier : l.cells.earlier ≡ l.initial.cells.earlier;
  listed : with_each l.present (flat_map (entry_of l.key (map.get old.world.rows l.key)) (drop l.at old.world.shape.links)) l.cells.present.listed
      ≡ with_each l.present (flat_map (entry_of l.key (map.get old.world.rows l.key)) old.world.shape.links) old.listed;
}

abbrev pub decreases-loop-at : goal.decreases-loop-at
decreases-loop-at l = length l.cells.present.world.shape.links - l.at
