use Rattle.dv_cascade.proofs.Relinked.{new_parents}
use Rattle.dv_cascade.proofs.laws.new_parents_that_are_not_under_a_row_make_no_circle.Goals as goal

pub returns : goal.returns
returns c = new_parents
