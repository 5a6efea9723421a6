use Rattle.dv_query_check.proofs.FormLaws.{typed_has_form}
use Rattle.dv_query_check.proofs.TypedLaws.{typed}
use Rattle.dv_query_check.proofs.resolving.an_accepted_query_can_be_resolved.Goals as goal

pub returns : goal.returns
returns c d q e = typed_has_form d q (typed d q e)
