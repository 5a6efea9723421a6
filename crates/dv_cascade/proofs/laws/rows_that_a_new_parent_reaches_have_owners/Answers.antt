use Rattle.dv_cascade.proofs.Owned.{reached_owned}
use Rattle.dv_cascade.proofs.laws.rows_that_a_new_parent_reaches_have_owners.Goals as goal

pub returns : goal.returns
returns c = λ w d moved key sound shape. reached_owned w d sound shape moved key
