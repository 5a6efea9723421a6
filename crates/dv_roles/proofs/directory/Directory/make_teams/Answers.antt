use Rattle.std.proofs.Common.{◌∙◌, arith}
use Rattle.dv_roles.specs.Beginning.{each, making_team}
use Rattle.dv_roles.proofs.EachLaws.{each-more, each-fault, each-end}
use Rattle.dv_roles.proofs.directory.Directory.make_teams.Goals as goal

pub returns-in-Err-clause-err : goal.returns-in-Err-clause-err
returns-in-Err-clause-err c =
    let xs = c.args.teams.now in
    let i = c.loop-team.team-index in
    each-fault making_team xs i c.team-item.result c.loop-team.self (each making_team c.args.self.now xs) c.in-Err.fault c.loop-team.invariant (omega arith) c.team-item.is c.in-Err.ensures.err

pub loop-team-preserved : goal.loop-team-preserved
loop-team-preserved c =
    let xs = c.args.teams.now in
    let i = c.loop-team.team-index in
    c.loop-team.invariant ∙ each-more making_team xs i c.team-item.result c.loop-team.self c.make_team.new.self (omega arith) c.team-item.is c.in_default.ensures.ok

pub returns-clause-ok : goal.returns-clause-ok
returns-clause-ok c = c.loop-team.invariant ∙ each-end making_team c.args.teams.now c.loop-team.team-index c.loop-team.self (omega arith)
