use Rattle.dv_units.proofs.ListLaws.{next_entry-taken}
use Rattle.dv_units.proofs.lists.next_entry.Goals as goal

pub returns-clause-entry : goal.returns-clause-entry
returns-clause-entry g c = next_entry-taken c.args.after c.args.list.now.entries c.range.result c.next.new.self (λ x. (x.0.now, x.1.now)) c.next.result (rw c.past.ensures at c.range.ensures.between tt) c.next.ensures.steps
