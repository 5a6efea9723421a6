use Rattle.std.proofs.Common.{◌≤◌, Bool, true, false, List, length, ap, ◌∙◌, sym, subst, arith, map, flat_map, ◌++◌}
use Rattle.std.proofs.lemmas.List.{length-map}
use Rattle.dv_meta.specs.Columns.{column_names, names_of, system_columns}
use Rattle.dv_meta.specs.Index.{Finds}
use Rattle.dv_schema.specs.Names.{Name}
use Rattle.dv_schema.specs.declared.draft.DraftColumn.{DraftColumn}
use Rattle.dv_schema.specs.declared.table.Column.{Column}
use Rattle.dv_meta.proofs.index.table_columns.column_numbers.Goals as goal

few : (owned : Bool) → length (system_columns owned) ≤ 8
unfolding system_columns
few true = omega arith
few false = omega arith

pub number_columns-requires-clause-first : goal.number_columns-requires-clause-first
number_columns-requires-clause-first c = omega (arith, few c.args.table.now.user_owned, c.len.ensures, ap length c.in_ok-system.ensures)

pub returns : goal.returns
unfolding column_names
returns c =
    let name : Column → Name = λ column. column.name in
    let P : List Column → Type 0 = λ columns. Finds c.in_ok-numbers.numbers (map name columns) in
    let found = subst P (c.as_slice.ensures ∙ c.in_ok-system.ensures) c.in_ok-numbers.ensures in
    let Q : List DraftColumn → Type 0 = λ columns. Finds c.number_columns.new.numbers (map name (system_columns c.args.table.now.user_owned) ++ flat_map names_of columns) in
    subst Q c.as_slice-2.ensures (c.in_ok-number_columns.ensures (map name (system_columns c.args.table.now.user_owned)) (length-map (system_columns c.args.table.now.user_owned) name ∙ sym (ap length c.in_ok-system.ensures) ∙ sym c.len.ensures) found)
