use Rattle.std.proofs.Common.{sym}
use Rattle.dv_cascade.proofs.Finding.{allowed}
use Rattle.dv_cascade.proofs.expanding.find_child.Goals as goal

pub returns-in_ok-add : goal.returns-in_ok-add
returns-in_ok-add c = allowed c.args.store.now.present c.args.cascade c.args.parent c.args.child c.args.found.now c.add.new.self c.requires (sym c.if-allows.ensures) c.in_ok-add.ensures
