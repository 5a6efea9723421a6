use Rattle.std.proofs.Common.{◌-◌}
use Rattle.std.specs.FinMap as map
use Rattle.dv_cascade.specs.Links.{Leads}
use Rattle.dv_cascade.proofs.Closures.{Closes}
use Rattle.dv_cascade.proofs.closing.find_under.Given as goal

abbrev pub invariant-rows : goal.invariant-rows
invariant-rows l = Closes l.fn.store.present.rows (Leads l.fn.store.present l.fn.definition l.fn.cascading) l.fn.found l.next l.found

abbrev pub decreases-rows : goal.decreases-rows
decreases-rows l = map.len l.fn.store.present.rows - l.next
