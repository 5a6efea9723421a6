use Rattle.std.proofs.Common.{◌∙◌, arith}
use Rattle.dv_roles.specs.Beginning.{each, making_role}
use Rattle.dv_roles.proofs.EachLaws.{each-more, each-fault, each-end}
use Rattle.dv_roles.proofs.directory.Directory.make_roles.Goals as goal

pub returns-in-Err-clause-err : goal.returns-in-Err-clause-err
returns-in-Err-clause-err c =
    let xs = c.args.roles.now in
    let i = c.loop-role.role-index in
    each-fault (making_role c.args.definition.now) xs i c.role-item.result c.loop-role.self (each (making_role c.args.definition.now) c.args.self.now xs) c.in-Err.fault c.loop-role.invariant (omega arith) c.role-item.is c.in-Err.ensures.err

pub loop-role-preserved : goal.loop-role-preserved
loop-role-preserved c =
    let xs = c.args.roles.now in
    let i = c.loop-role.role-index in
    c.loop-role.invariant ∙ each-more (making_role c.args.definition.now) xs i c.role-item.result c.loop-role.self c.add_role.new.self (omega arith) c.role-item.is c.in_default.ensures.ok

pub returns-clause-ok : goal.returns-clause-ok
returns-clause-ok c = c.loop-role.invariant ∙ each-end (making_role c.args.definition.now) c.args.roles.now c.loop-role.role-index c.loop-role.self (omega arith)
