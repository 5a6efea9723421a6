use Rattle.dv_cells.proofs.OneItem.{one_item}
use Rattle.dv_cells.proofs.laws.an_item_has_a_cell_of_its_own.Goals as goal

pub returns : goal.returns
returns c = one_item c.no_spelling_begins_another.ensures
