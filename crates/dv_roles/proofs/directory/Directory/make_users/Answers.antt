use Rattle.std.proofs.Common.{◌∙◌, arith}
use Rattle.dv_roles.specs.Beginning.{each, making_user}
use Rattle.dv_roles.proofs.EachLaws.{each-more, each-fault, each-end}
use Rattle.dv_roles.proofs.directory.Directory.make_users.Goals as goal

pub returns-in-Err-clause-err : goal.returns-in-Err-clause-err
returns-in-Err-clause-err c =
    let xs = c.args.users.now in
    let i = c.loop-user.user-index in
    each-fault making_user xs i c.user-item.result c.loop-user.self (each making_user c.args.self.now xs) c.in-Err.fault c.loop-user.invariant (omega arith) c.user-item.is c.in-Err.ensures.err

pub loop-user-preserved : goal.loop-user-preserved
loop-user-preserved c =
    let xs = c.args.users.now in
    let i = c.loop-user.user-index in
    c.loop-user.invariant ∙ each-more making_user xs i c.user-item.result c.loop-user.self c.make_user.new.self (omega arith) c.user-item.is c.in_default.ensures.ok

pub returns-clause-ok : goal.returns-clause-ok
returns-clause-ok c = c.loop-user.invariant ∙ each-end making_user c.args.users.now c.loop-user.user-index c.loop-user.self (omega arith)
