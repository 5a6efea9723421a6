use Rattle.dv_store.proofs.KeptLaws.{IsOrdered-none}
use Rattle.dv_store.proofs.cells.Cells.new.Goals as goal

pub invariant_of-result : goal.invariant_of-result
invariant_of-result c = record { present = rw c.new.ensures.empty IsOrdered-none; earlier = rw c.new.ensures.fresh tt }
