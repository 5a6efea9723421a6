use Rattle.std.proofs.Common.{ap}
use Rattle.dv_roles.specs.Seen.{is_refused}
use Rattle.dv_roles.proofs.TeamWellLaws.{beginning-well}
use Rattle.dv_roles.proofs.laws.beginning_never_refused.Goals as goal

pub returns : goal.returns
returns c definition well = ap is_refused (beginning-well definition well).1
