use Rattle.std.proofs.Common.{◌≡◌, drop}
use Rattle.dv_roles.specs.Beginning.{each, making_unit}
use Rattle.dv_roles.proofs.directory.Directory.make_units.Given as goal

abbrev pub invariant-loop-unit : goal.invariant-loop-unit
invariant-loop-unit l = each making_unit l.fn.self l.units ≡ each making_unit l.self (drop l.unit-index l.units)
