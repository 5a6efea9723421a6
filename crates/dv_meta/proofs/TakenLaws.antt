-- The columns of a table that take a name, one by one.
use Rattle.std.proofs.Common.{◌≡◌, ℕ, ◌+◌, ◌<◌, ◌≤◌, Bool, true, false, [], length, take, flat_map, get_or, Option, Some, None, cond, refl, sym, ap, ◌∙◌, arith}
use Rattle.std.proofs.lemmas.List.{length-append}
use Rattle.std.specs.List.{list_any}
use Rattle.dv_schema.specs.declared.draft.DraftColumn.{DraftColumn}
use Rattle.dv_schema.specs.declared.draft.DraftTable.{DraftTable}
use Rattle.dv_meta.specs.Columns.{column_names, column_number, names_of, system_columns, system_names}
use Rattle.dv_schema.specs.First.{first_from}
use Rattle.dv_schema.specs.Names.{stands_before}
use Rattle.dv_meta.specs.NameTaken.{takes_name, taken_in}
use Rattle.dv_meta.proofs.IndexLaws.{flat_map-take-more}

-- the place of a column that takes a name
abbrev pub takes_at : DraftTable → ℕ → DraftColumn → Option ℕ
takes_at table j column = cond (takes_name table j column) (Some j) None

-- the number of the first own column
pub column_number-first : (table : DraftTable) → column_number table 0 ≡ length (system_names table.user_owned)
unfolding column_number
column_number-first table = omega arith

-- the number of the next column
pub column_number-next : (table : DraftTable) (j : ℕ) (column : DraftColumn) → j < length table.columns → column ≡ get_or table.columns j column
    → column_number table j + length (names_of column) ≡ column_number table (j + 1)
unfolding column_number
column_number-next table j column within read =
    let more = flat_map-take-more names_of [] table.columns j column within read in
    let longer : length (flat_map names_of (take (j + 1) table.columns)) ≡ length (flat_map names_of (take j table.columns)) + length (names_of column) =
    sym (ap length more) ∙ length-append (flat_map names_of (take j table.columns)) (names_of column) in
    omega (arith, longer)

pub taken_in-is : (table : DraftTable) → taken_in table ≡ first_from (takes_at table) 0 table.columns
unfolding taken_in
taken_in-is table = refl

pub takes_at-false : (table : DraftTable) (j : ℕ) (column : DraftColumn) → takes_name table j column ≡ false → takes_at table j column ≡ None
takes_at-false table j column e = ap (λ b. cond b (Some j) None) e

pub takes_at-true : (table : DraftTable) (j : ℕ) (column : DraftColumn) → takes_name table j column ≡ true → takes_at table j column ≡ Some j
takes_at-true table j column e = ap (λ b. cond b (Some j) None) e

-- a table has at most eight system columns
pub length-system_names : (owned : Bool) → length (system_names owned) ≤ 8
unfolding system_columns
length-system_names true = omega arith
length-system_names false = omega arith

-- a test of the column's names by its number
pub takes_name-at : (table : DraftTable) (j number : ℕ) (column : DraftColumn) (b : Bool) → number ≡ column_number table j
    → b ≡ list_any (stands_before (column_names table) number) (names_of column) → takes_name table j column ≡ b
unfolding takes_name
takes_name-at table j number column b e tested = sym (tested ∙ ap (λ n. list_any (stands_before (column_names table) n) (names_of column)) e)
