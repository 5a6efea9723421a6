use Rattle.std.proofs.Common.{◌≡◌, ◌++◌, drop}
use Rattle.dv_message.specs.Lookups.{namings_of}
use Rattle.dv_message.proofs.lookups.add_namings.Given as goal

abbrev pub invariant-loop-column : goal.invariant-loop-column
invariant-loop-column l = l.named ++ namings_of l.definition (drop l.column-index l.columns) l.given ≡ l.fn.named ++ namings_of l.definition l.columns l.given
