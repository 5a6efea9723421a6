use Rattle.std.proofs.Common.{◌≡◌, take}
use Rattle.std.specs.Prelude.{map}
use Rattle.dv_write.specs.Deleting.{emptied}
use Rattle.dv_write.proofs.losing.emptied.Given as goal

abbrev pub invariant-loop-lookup : goal.invariant-loop-lookup
invariant-loop-lookup l = l.placed ≡ map emptied (take l.lookup-index l.lookups)
