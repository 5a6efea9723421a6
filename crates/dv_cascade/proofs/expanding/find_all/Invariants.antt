use Rattle.std.proofs.Common.{◌-◌, ◌<◌}
use Rattle.dv_cascade.specs.Found.{Finds}
use Rattle.dv_cascade.proofs.Leading.{LeadsBelow}
use Rattle.dv_cascade.proofs.expanding.find_all.Given as goal

abbrev pub invariant-relationships : goal.invariant-relationships
invariant-relationships l = Finds l.fn.store.present.rows (LeadsBelow l.fn.store.present l.fn.definition l.fn.cascading l.fn.parent l.number) l.fn.found l.found × (l.number < 65536)

abbrev pub decreases-relationships : goal.decreases-relationships
decreases-relationships l = 65536 - l.number
