use Rattle.std.proofs.Common.{◌∙◌}
use Rattle.dv_units.proofs.ListLaws.{next_pair-taken}
use Rattle.dv_units.proofs.lists.next_pair.Goals as goal

pub returns-clause-pair : goal.returns-clause-pair
returns-clause-pair c = c.copied.ensures ∙ next_pair-taken c.args.after c.args.pairs.now.keys c.range.result c.next.new.self (λ x. x.now) c.next.result (rw c.past.ensures at c.range.ensures.between tt) c.next.ensures.steps
