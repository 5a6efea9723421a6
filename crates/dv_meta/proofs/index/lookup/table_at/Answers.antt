use Rattle.std.proofs.Common.{sym, ap, ◌∙◌, slice_get}
use Rattle.dv_meta.proofs.IndexLaws.{FindsEach-at, FindsEach-none}
use Rattle.dv_meta.proofs.index.lookup.table_at.Goals as goal

pub returns-in-Some-at-clause-columns : goal.returns-in-Some-at-clause-columns
returns-in-Some-at-clause-columns c =
    FindsEach-at c.args.index.now.columns.items c.args.draft.now.tables c.args.i c.in-Some-at.columns.now c.in-Some.table.now c.requires.columns
    (sym (c.in-Some-at.ensures ∙ ap (λ columns. slice_get columns c.args.i) c.as_slice.ensures.value)) (sym c.in-Some.ensures.value)

pub returns-in-None-at-clause-table : goal.returns-in-None-at-clause-table
returns-in-None-at-clause-table c =
    sym (FindsEach-none c.args.index.now.columns.items c.args.draft.now.tables c.args.i c.requires.columns
    (sym (c.in-None-at.ensures ∙ ap (λ columns. slice_get columns c.args.i) c.as_slice.ensures.value)))
