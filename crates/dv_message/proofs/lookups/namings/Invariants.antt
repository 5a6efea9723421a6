use Rattle.std.proofs.Common.{◌≡◌, ◌++◌, drop}
use Rattle.dv_message.specs.Lookups.{namings}
use Rattle.dv_message.proofs.lookups.namings.Given as goal

abbrev pub invariant-loop-given : goal.invariant-loop-given
invariant-loop-given l = l.named ++ namings l.definition l.columns (drop l.given-index l.fn.values) ≡ namings l.definition l.columns l.fn.values
