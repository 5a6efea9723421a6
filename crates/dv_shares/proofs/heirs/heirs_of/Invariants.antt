use Rattle.std.proofs.Common.{take}
use Rattle.dv_cascade.specs.Chains.{is_among}
use Rattle.dv_shares.proofs.Climbing.{SomeHeirs}
use Rattle.dv_shares.proofs.heirs.heirs_of.Given as goal

abbrev pub invariant-loop-row : goal.invariant-loop-row
invariant-loop-row l = SomeHeirs l.fn.store.present l.fn.definition l.set l.waiting (is_among (take l.row-index l.set)) l.heirs.items
