use Rattle.std.proofs.Common.{◌≡◌, take}
use Rattle.dv_keeper.specs.Memory.{HavePlaces, held_in}
use Rattle.dv_keeper.proofs.places.make_places.Given as goal

-- the places made so far aren't seen, and the first writes have theirs
abbrev pub invariant-loop-write : goal.invariant-loop-write
invariant-loop-write l = record {
  held : held_in l.places.entries ≡ held_in l.fn.places.entries;
  there : HavePlaces l.places.entries (take l.write-index l.writes);
}
