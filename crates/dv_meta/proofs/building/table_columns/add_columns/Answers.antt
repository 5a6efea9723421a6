use Rattle.std.proofs.Common.{◌≡◌, [], ◌∷◌, ap, ◌∙◌}
use Rattle.std.specs.Str.{chars}
use Rattle.dv_value.specs.declared.kind.Kind.TheVariants.{Moment}
use Rattle.dv_meta.specs.Accepted.{columns_by, columns_of, rollup_column, companion, any_whole}
use Rattle.dv_meta.specs.Columns.{state_name, date_name}
use Rattle.dv_meta.proofs.IndexLaws.{three_more}
use Rattle.dv_meta.proofs.building.table_columns.add_columns.Goals as goal

pub returns-in_ok-push-in-Rollup-3 : goal.returns-in_ok-push-in-Rollup-3
unfolding chars columns_of
returns-in_ok-push-in-Rollup-3 c =
    let draft = c.args.draft.now in
    let column = c.args.column.now in
    let rollup = c.in-Rollup.rollup in
    let own : c.rollup_column.result ≡ rollup_column draft column.name column.required rollup =
    c.rollup_column.ensures ∙ ap (λ name. rollup_column draft name column.required rollup) c.in_ok-name.ensures in
    let state : c.in_ok-state-in-Rollup.state ≡ companion (state_name column.name) any_whole =
    c.in_ok-state-in-Rollup.ensures ∙ ap (λ name. companion (state_name name) c.any_whole.result) c.in_ok-name.ensures ∙ ap (λ kind. companion (state_name column.name) kind) c.any_whole.ensures in
    let date : c.in_ok-date-in-Rollup.date ≡ companion (date_name column.name) Moment =
    c.in_ok-date-in-Rollup.ensures ∙ ap (λ name. companion (date_name name) Moment) c.in_ok-name.ensures in
    let listed : columns_of draft c.args.table.now column ≡ rollup_column draft column.name column.required rollup ∷ companion (state_name column.name) any_whole ∷ companion (date_name column.name) Moment ∷ [] =
    ap (λ form. columns_by draft c.args.table.now.name column.name column.required form) c.in-Rollup.is in
    three_more c.args.into.now c.push-in-Rollup.new.self c.push-in-Rollup-2.new.self c.push-in-Rollup-3.new.self (columns_of draft c.args.table.now column)
    c.rollup_column.result c.in_ok-state-in-Rollup.state c.in_ok-date-in-Rollup.date
    (rollup_column draft column.name column.required rollup) (companion (state_name column.name) any_whole) (companion (date_name column.name) Moment)
    c.in_ok-push-in-Rollup.ensures.ok c.in_ok-push-in-Rollup-2.ensures.ok c.in_ok-push-in-Rollup-3.ensures.ok own state date listed
