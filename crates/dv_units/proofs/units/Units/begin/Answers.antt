use Rattle.dv_units.proofs.Changes.{begun}
use Rattle.dv_units.proofs.units.Units.begin.Goals as goal

pub invariant_of-result : goal.invariant_of-result
invariant_of-result c = rw (c.in_ok-put.ensures.ok, c.new-units.ensures.empty, c.new.ensures.empty, c.new-2.ensures.empty, c.new-3.ensures.empty, c.new-4.ensures.empty) (begun c.args.root c.requires)
