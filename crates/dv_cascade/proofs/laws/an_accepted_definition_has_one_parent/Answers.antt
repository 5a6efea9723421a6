use Rattle.dv_cascade.proofs.OneParent.{has_one_parent}
use Rattle.dv_cascade.proofs.laws.an_accepted_definition_has_one_parent.Goals as goal

pub returns : goal.returns
returns c = has_one_parent
