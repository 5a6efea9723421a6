use Rattle.std.proofs.Common.{◌∙◌, arith, get_or}
use Rattle.dv_roles.specs.Beginning.{each, giving_to}
use Rattle.dv_roles.proofs.EachLaws.{each-more, each-fault, each-end, read-own}
use Rattle.dv_roles.proofs.directory.Directory.give_roles.Goals as goal

pub returns-in-Err-clause-err : goal.returns-in-Err-clause-err
returns-in-Err-clause-err c =
    let xs = c.args.roles.now in
    let i = c.loop-role.role-index in
    each-fault (giving_to c.args.principal) xs i (get_or xs i (record { 0 = 0 })) c.loop-role.self (each (giving_to c.args.principal) c.args.self.now xs) c.in-Err.fault c.loop-role.invariant (omega arith) (read-own xs i (record { 0 = 0 }) (omega arith)) c.in-Err.ensures.err

pub loop-role-preserved : goal.loop-role-preserved
loop-role-preserved c =
    let xs = c.args.roles.now in
    let i = c.loop-role.role-index in
    c.loop-role.invariant ∙ each-more (giving_to c.args.principal) xs i (get_or xs i (record { 0 = 0 })) c.loop-role.self c.give_role.new.self (omega arith) (read-own xs i (record { 0 = 0 }) (omega arith)) c.in_default.ensures.ok

pub returns-clause-ok : goal.returns-clause-ok
returns-clause-ok c = c.loop-role.invariant ∙ each-end (giving_to c.args.principal) c.args.roles.now c.loop-role.role-index c.loop-role.self (omega arith)
