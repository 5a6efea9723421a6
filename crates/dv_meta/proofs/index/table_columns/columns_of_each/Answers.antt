use Rattle.std.proofs.Common.{◌+◌, List, [], take, sym, subst, arith}
use Rattle.dv_meta.specs.Index.{FindsEach}
use Rattle.dv_meta.specs.declared.index.table_columns.Columns.{Columns}
use Rattle.dv_meta.proofs.IndexLaws.{FindsEach-nil, FindsEach-more, FindsEach-all, slice_get-read}
use Rattle.dv_meta.proofs.index.table_columns.columns_of_each.Goals as goal

pub loop-table-init : goal.loop-table-init
loop-table-init c = let P : List Columns → Type 0 = λ cs. FindsEach cs [] in subst P (sym c.new-columns.ensures.items) FindsEach-nil

pub columns_of-requires : goal.columns_of-requires
columns_of-requires c = c.requires c.loop-table.table-index c.table-item.result (slice_get-read c.args.tables.now c.loop-table.table-index c.table-item.result (omega arith) c.table-item.is)

pub loop-table-preserved : goal.loop-table-preserved
loop-table-preserved c =
    let ts = c.args.tables.now in
    let i = c.loop-table.table-index in
    let P : List Columns → Type 0 = λ cs. FindsEach cs (take (i + 1) ts) in
    subst P (sym c.in_ok-push.ensures.items) (FindsEach-more c.loop-table.columns.items ts i c.in_ok-columns_of.field-0 c.table-item.result (omega arith) c.table-item.is c.loop-table.invariant c.in_ok-columns_of.ensures)

pub returns : goal.returns
returns c = FindsEach-all c.loop-table.columns.items c.args.tables.now c.loop-table.table-index (omega arith) c.loop-table.invariant
