use Rattle.std.proofs.Common.{sym, ◌∙◌, arith}
use Rattle.dv_meta.specs.NameTaken.{taken_at_table, taken_in_tables}
use Rattle.dv_schema.proofs.FirstLaws.{first_from-more_at, first_from-found_at, first_from-end}
use Rattle.dv_meta.proofs.passes.taken_names.taken_in_tables.Goals as goal

pub returns-in-Some : goal.returns-in-Some
unfolding taken_in_tables
returns-in-Some c =
    sym (c.loop-i.invariant ∙ first_from-found_at (taken_at_table c.args.draft.now) c.args.draft.now.tables c.loop-i.i c.in-Some.place (omega (arith, c.len-i-end.ensures))
    (λ table at. sym (c.in_ok-place.ensures table at) ∙ c.in-Some.is))

pub loop-i-preserved : goal.loop-i-preserved
loop-i-preserved c =
    c.loop-i.invariant ∙ first_from-more_at (taken_at_table c.args.draft.now) c.args.draft.now.tables c.loop-i.i (omega (arith, c.len-i-end.ensures))
    (λ table at. sym (c.in_ok-place.ensures table at) ∙ c.in_default.is)

pub returns : goal.returns
unfolding taken_in_tables
returns c = sym (c.loop-i.invariant ∙ first_from-end (taken_at_table c.args.draft.now) c.args.draft.now.tables c.loop-i.i (omega (arith, c.len-i-end.ensures)))
