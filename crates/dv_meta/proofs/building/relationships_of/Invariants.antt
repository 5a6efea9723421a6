use Rattle.std.proofs.Common.{◌≡◌, map, take}
use Rattle.dv_meta.specs.Accepted.{relationship_of}
use Rattle.dv_meta.proofs.building.relationships_of.Given as goal

abbrev pub invariant-loop-r : goal.invariant-loop-r
invariant-loop-r l = l.relationships ≡ map (relationship_of l.draft) (take l.r-index l.r-items)
