use Rattle.std.proofs.Common.{◌≡◌, drop}
use Rattle.dv_grant.specs.Retrieving.{names_fault}
use Rattle.dv_grant.proofs.retrieving.check_names.Given as goal

abbrev pub invariant-loop-name : goal.invariant-loop-name
invariant-loop-name l = names_fault l.columns l.names ≡ names_fault l.columns (drop l.name-index l.names)
