use Rattle.std.proofs.Common.{◌≡◌, [], ◌∷◌, ap}
use Rattle.std.specs.Str.{chars}
use Rattle.dv_meta.specs.Columns.{names_of, names_by, state_name, date_name}
use Rattle.dv_meta.proofs.IndexLaws.{Finds-column, Finds-rollup}
use Rattle.dv_meta.proofs.index.table_columns.number_column.Goals as goal

pub returns-in-Plain-clause-finds : goal.returns-in-Plain-clause-finds
returns-in-Plain-clause-finds c = λ names count found.
    Finds-column _ c.args.numbers.now c.add.new.self names c.args.column.now.name c.in_ok-copy.field-0 c.args.next (ap (λ form. names_by form c.args.column.now.name) c.in-Plain.is) c.in_ok-copy.ensures count found c.in_ok-add.ensures

pub returns-in-Lookup-clause-finds : goal.returns-in-Lookup-clause-finds
returns-in-Lookup-clause-finds c = λ names count found.
    Finds-column _ c.args.numbers.now c.add.new.self names c.args.column.now.name c.in_ok-copy.field-0 c.args.next (ap (λ form. names_by form c.args.column.now.name) c.in-Lookup.is) c.in_ok-copy.ensures count found c.in_ok-add.ensures

pub returns-in_ok-add-in-Rollup-2-clause-finds : goal.returns-in_ok-add-in-Rollup-2-clause-finds
unfolding chars
returns-in_ok-add-in-Rollup-2-clause-finds c = λ names count found.
    let name = c.args.column.now.name in
    let taken : names_of c.args.column.now ≡ name ∷ state_name name ∷ date_name name ∷ [] = ap (λ form. names_by form name) c.in-Rollup.is in
    let own : c.in_ok-copy.field-0 ≡ name = c.in_ok-copy.ensures in
    let state : c.in_ok-with_ending-in-Rollup.field-0 ≡ state_name name = c.in_ok-with_ending-in-Rollup.ensures in
    let date : c.in_ok-with_ending-in-Rollup-2.field-0 ≡ date_name name = c.in_ok-with_ending-in-Rollup-2.ensures in
    Finds-rollup (names_of c.args.column.now) c.args.numbers.now c.add.new.self c.add-in-Rollup.new.self c.add-in-Rollup-2.new.self names c.in_ok-copy.field-0 c.in_ok-with_ending-in-Rollup.field-0 c.in_ok-with_ending-in-Rollup-2.field-0 c.args.next
    (cc (taken, own, state, date)) count found c.in_ok-add.ensures c.in_ok-add-in-Rollup.ensures c.in_ok-add-in-Rollup-2.ensures
