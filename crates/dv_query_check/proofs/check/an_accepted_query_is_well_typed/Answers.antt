use Rattle.dv_query_check.proofs.TypedLaws.{typed}
use Rattle.dv_query_check.proofs.check.an_accepted_query_is_well_typed.Goals as goal

pub returns : goal.returns
returns c = typed
