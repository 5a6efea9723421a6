use Rattle.std.proofs.Common.{◌≡◌, [], ◌∷◌, ap, ◌∙◌}
use Rattle.std.specs.List.{list_any}
use Rattle.std.specs.Str.{chars}
use Rattle.dv_meta.specs.Columns.{names_of, names_by, state_name, date_name}
use Rattle.dv_schema.specs.Names.{stands_before}
use Rattle.dv_meta.proofs.passes.taken_names.takes_name.Goals as goal

pub returns-in_ok-date-in-Rollup : goal.returns-in_ok-date-in-Rollup
unfolding chars
returns-in_ok-date-in-Rollup c = λ names found.
    let name = c.args.column.now.name in
    let taken : names_of c.args.column.now ≡ name ∷ state_name name ∷ date_name name ∷ [] = ap (λ form. names_by form name) c.in-Rollup.is in
    let state : c.in_ok-state-in-Rollup.state ≡ state_name name = c.in_ok-state-in-Rollup.ensures in
    let date : c.in_ok-date-in-Rollup.date ≡ date_name name = c.in_ok-date-in-Rollup.ensures in
    let same : name ∷ c.in_ok-state-in-Rollup.state ∷ c.in_ok-date-in-Rollup.date ∷ [] ≡ names_of c.args.column.now = cc (taken, state, date) in
    c.one_stands_before.ensures names found ∙ ap (list_any (stands_before names c.args.number)) same
