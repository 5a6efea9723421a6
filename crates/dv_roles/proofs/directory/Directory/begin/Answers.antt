use Rattle.dv_roles.proofs.BeginLaws.{beginning-rules}
use Rattle.dv_roles.proofs.TeamWellLaws.{never-fault}
use Rattle.dv_roles.proofs.directory.Directory.begin.Goals as goal

pub returns-in-Ok-clause-rules : goal.returns-in-Ok-clause-rules
returns-in-Ok-clause-rules c = (beginning-rules c.args.definition.now c.in-Ok.directory c.in-Ok.ensures.ok).0

pub returns-in-Ok-clause-owned : goal.returns-in-Ok-clause-owned
returns-in-Ok-clause-owned c = (beginning-rules c.args.definition.now c.in-Ok.directory c.in-Ok.ensures.ok).1

pub returns-in-Err-clause-never : goal.returns-in-Err-clause-never
returns-in-Err-clause-never c well = never-fault c.args.definition.now c.in-Err.fault c.in-Err.ensures.err well
