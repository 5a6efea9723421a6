use Rattle.std.proofs.Common.{◌-◌, ◌<◌}
use Rattle.dv_schema.specs.Definitions.{relationships_of}
use Rattle.dv_cascade.specs.Removal.{EmptiesBy}
use Rattle.dv_cascade.specs.Cleared.{Adds}
use Rattle.dv_cascade.proofs.Emptied.{Below}
use Rattle.dv_cascade.proofs.clearing.clear_all.Given as goal

abbrev pub invariant-relationships : goal.invariant-relationships
invariant-relationships l = Adds (Below (relationships_of l.fn.definition) (EmptiesBy l.fn.store.present l.fn.set) l.number) l.fn.cleared l.cleared × (l.number < 65536)

abbrev pub decreases-relationships : goal.decreases-relationships
decreases-relationships l = 65536 - l.number
