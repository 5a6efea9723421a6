use Rattle.std.proofs.Common.{◌∙◌, arith, get_or}
use Rattle.dv_roles.specs.Beginning.{each, making_unit}
use Rattle.dv_roles.proofs.EachLaws.{each-more, each-fault, each-end, read-own}
use Rattle.dv_roles.proofs.directory.Directory.make_units.Goals as goal

pub returns-in-Err-clause-err : goal.returns-in-Err-clause-err
returns-in-Err-clause-err c =
    let xs = c.args.units.now in
    let i = c.loop-unit.unit-index in
    each-fault making_unit xs i (get_or xs i (record { id = record { 0 = 0 }; parent = record { 0 = 0 } })) c.loop-unit.self (each making_unit c.args.self.now xs) c.in-Err.fault c.loop-unit.invariant (omega arith) (read-own xs i (record { id = record { 0 = 0 }; parent = record { 0 = 0 } }) (omega arith)) c.in-Err.ensures.err

pub loop-unit-preserved : goal.loop-unit-preserved
loop-unit-preserved c =
    let xs = c.args.units.now in
    let i = c.loop-unit.unit-index in
    c.loop-unit.invariant ∙ each-more making_unit xs i (get_or xs i (record { id = record { 0 = 0 }; parent = record { 0 = 0 } })) c.loop-unit.self c.make_unit.new.self (omega arith) (read-own xs i (record { id = record { 0 = 0 }; parent = record { 0 = 0 } }) (omega arith)) c.in_default.ensures.ok

pub returns-clause-ok : goal.returns-clause-ok
returns-clause-ok c = c.loop-unit.invariant ∙ each-end making_unit c.args.units.now c.loop-unit.unit-index c.loop-unit.self (omega arith)
