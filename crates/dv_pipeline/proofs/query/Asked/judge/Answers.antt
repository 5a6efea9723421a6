use Rattle.dv_pipeline.specs.Querying.{QuerySays}
use Rattle.dv_pipeline.proofs.query.Asked.judge.Goals as goal

pub returns-in-Privilege : goal.returns-in-Privilege
unfolding QuerySays
returns-in-Privilege c = rw c.in-Privilege.is c.check_privilege.ensures
