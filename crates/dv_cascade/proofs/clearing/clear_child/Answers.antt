use Rattle.std.proofs.Common.{sym}
use Rattle.dv_cascade.proofs.Emptied.{spared, not_spared}
use Rattle.dv_cascade.proofs.clearing.clear_child.Goals as goal

pub returns-then-has : goal.returns-then-has
returns-then-has c = not_spared c.args.set.now c.args.lookup c.args.cleared.now (sym c.if-has.ensures)

pub returns : goal.returns
returns c = spared c.args.set.now c.args.lookup c.args.cleared.now c.add.new.self (sym c.if-has.ensures) c.in_ok-add.ensures
