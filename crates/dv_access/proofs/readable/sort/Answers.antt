use Rattle.dv_access.proofs.Sorting.{sorted}
use Rattle.dv_access.proofs.readable.sort.Goals as goal

pub returns : goal.returns
returns c = sorted c.args.ids.now.items c.sort_unstable.new.self.items c.dedup.new.self.items c.sort_unstable.ensures.permutation c.sort_unstable.ensures.sorted c.dedup.ensures.filtered
