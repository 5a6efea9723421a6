use Rattle.std.proofs.Common.{◌≡◌, take}
use Rattle.dv_store.specs.Shapes.{links_of}
use Rattle.dv_store.proofs.shape.links_of.Given as goal

abbrev pub invariant-loop-relationship : goal.invariant-loop-relationship
invariant-loop-relationship l = l.links ≡ links_of (take l.relationship-index l.relationships)
