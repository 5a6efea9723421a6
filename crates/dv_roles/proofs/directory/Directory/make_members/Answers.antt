use Rattle.std.proofs.Common.{◌∙◌, arith, get_or}
use Rattle.dv_roles.specs.Beginning.{each, making_member}
use Rattle.dv_roles.proofs.EachLaws.{each-more, each-fault, each-end, read-own}
use Rattle.dv_roles.proofs.directory.Directory.make_members.Goals as goal

pub returns-in-Err-clause-err : goal.returns-in-Err-clause-err
returns-in-Err-clause-err c =
    let xs = c.args.users.now in
    let i = c.loop-user.user-index in
    each-fault (making_member c.args.team) xs i (get_or xs i (record { 0 = 0 })) c.loop-user.self (each (making_member c.args.team) c.args.self.now xs) c.in-Err.fault c.loop-user.invariant (omega arith) (read-own xs i (record { 0 = 0 }) (omega arith)) c.in-Err.ensures.err

pub loop-user-preserved : goal.loop-user-preserved
loop-user-preserved c =
    let xs = c.args.users.now in
    let i = c.loop-user.user-index in
    c.loop-user.invariant ∙ each-more (making_member c.args.team) xs i (get_or xs i (record { 0 = 0 })) c.loop-user.self c.make_member.new.self (omega arith) (read-own xs i (record { 0 = 0 }) (omega arith)) c.in_default.ensures.ok

pub returns-clause-ok : goal.returns-clause-ok
returns-clause-ok c = c.loop-user.invariant ∙ each-end (making_member c.args.team) c.args.users.now c.loop-user.user-index c.loop-user.self (omega arith)
