use Rattle.std.proofs.Common.{◌≡◌, ◌++◌}
use Rattle.dv_store.specs.Changes.{places_of}
use Rattle.dv_store.proofs.changes.places_of.Given as goal

abbrev pub invariant-loop-key : goal.invariant-loop-key
invariant-loop-key l = l.places.items ++ places_of l.key-iterator ≡ places_of l.initial.key-iterator
