use Rattle.std.proofs.Common.{sym, subst}
use Rattle.dv_store.specs.Kept.{IsWell}
use Rattle.dv_store.proofs.Puts.{IsWell-nothing}
use Rattle.dv_store.proofs.store.Store.new.Goals as goal

pub invariant_of-result : goal.invariant_of-result
invariant_of-result c = record { present = subst IsWell (sym c.new.ensures.present) (IsWell-nothing c.in_ok-shape.shape); earlier = rw c.new.ensures.earlier tt }
