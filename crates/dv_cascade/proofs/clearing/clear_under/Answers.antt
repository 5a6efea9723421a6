use Rattle.dv_cascade.specs.Cleared.{Names}
use Rattle.dv_cascade.proofs.Emptied.{nothing}
use Rattle.dv_cascade.proofs.clearing.clear_under.Goals as goal

pub returns-then-parent-relationship : goal.returns-then-parent-relationship
returns-then-parent-relationship c = nothing (Names c.args.store.now.present c.args.relationship.now c.args.set.now c.args.parent) c.args.cleared.now (λ key h. c.if-parent-relationship.true h.is.refers.parent_table)
