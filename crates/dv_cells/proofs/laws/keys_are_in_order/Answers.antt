use Rattle.dv_cells.proofs.KeyOrder as order
use Rattle.dv_cells.proofs.laws.keys_are_in_order.Goals as goal

pub returns-clause-ids : goal.returns-clause-ids
returns-clause-ids c = order.ids

pub returns-clause-pairs : goal.returns-clause-pairs
returns-clause-pairs c = order.pairs

pub returns-clause-rows : goal.returns-clause-rows
returns-clause-rows c = order.rows

pub returns-clause-grants : goal.returns-clause-grants
returns-clause-grants c = order.grants

pub returns-clause-rollups : goal.returns-clause-rollups
returns-clause-rollups c = order.rollups
