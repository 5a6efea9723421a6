use Rattle.dv_value.proofs.Amounts.{unit_of_some}
use Rattle.dv_value.proofs.amount.unit.Goals as goal

pub returns-clause-some : goal.returns-clause-some
returns-clause-some c = rw c.pow.ensures (unit_of_some c.from.result)
