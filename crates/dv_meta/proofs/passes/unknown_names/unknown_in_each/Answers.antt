use Rattle.std.proofs.Common.{sym, ◌∙◌, arith}
use Rattle.dv_meta.specs.UnknownName.{unknown_in}
use Rattle.dv_schema.proofs.FirstLaws.{first_from-more, first_from-found, first_from-end}
use Rattle.dv_meta.proofs.passes.unknown_names.unknown_in_each.Goals as goal

pub returns-in-Some : goal.returns-in-Some
returns-in-Some c = sym (c.loop-i.invariant ∙ first_from-found (unknown_in c.args.draft.now) c.args.tables.now c.loop-i.i c.index-tables-i.result c.in-Some.place (omega arith) c.index-tables-i.is (sym c.unknown_in.ensures ∙ c.in-Some.is))

pub loop-i-preserved : goal.loop-i-preserved
loop-i-preserved c = c.loop-i.invariant ∙ first_from-more (unknown_in c.args.draft.now) c.args.tables.now c.loop-i.i c.index-tables-i.result (omega arith) c.index-tables-i.is (sym c.unknown_in.ensures ∙ c.in_default.is)

pub returns : goal.returns
returns c = sym (c.loop-i.invariant ∙ first_from-end (unknown_in c.args.draft.now) c.args.tables.now c.loop-i.i (omega arith))
