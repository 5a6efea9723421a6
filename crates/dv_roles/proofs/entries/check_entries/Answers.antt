use Rattle.std.proofs.Common.{rules, ◌∙◌, arith}
use Rattle.dv_schema.proofs.FirstLaws.{first_from-more, first_from-end}
use Rattle.dv_roles.specs.Entries.{entry_fault}
use Rattle.dv_roles.proofs.Refused.{refused-entry}
use Rattle.dv_roles.proofs.entries.check_entries.Goals as goal

pub returns-in-Err-clause-err : goal.returns-in-Err-clause-err
returns-in-Err-clause-err c = refused-entry c.args.definition.now c.args.entries.now c.loop-entry.entry-index c.entry-item.result c.in-Err.fault c.loop-entry.invariant (omega arith) c.entry-item.is (search rules)

pub loop-entry-preserved : goal.loop-entry-preserved
loop-entry-preserved c = c.loop-entry.invariant ∙ first_from-more (λ i entry. entry_fault c.args.definition.now entry) c.args.entries.now c.loop-entry.entry-index c.entry-item.result (omega arith) c.entry-item.is (search rules)

pub returns-clause-ok : goal.returns-clause-ok
returns-clause-ok c = c.loop-entry.invariant ∙ first_from-end (λ i entry. entry_fault c.args.definition.now entry) c.args.entries.now c.loop-entry.entry-index (omega arith)
