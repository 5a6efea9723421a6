use Rattle.std.specs.Int.{to_be_bytes, w16}
use Rattle.dv_cells.specs.Bytes.{row_bytes}
use Rattle.dv_cells.proofs.Parts.{joined}
use Rattle.dv_cells.proofs.keys.read_dirty.Goals as goal

pub returns : goal.returns
returns c = (
  (c.in_ok-row-2.ensures.0, c.in_ok-column.ensures.0),
  joined 18 c.args.bytes.now c.in_ok-row.row.now c.in_ok-row.column.now (row_bytes c.in_ok-row-2.row) (to_be_bytes w16 c.in_ok-column.column)
      c.in_ok-row.ensures.cases.0 c.in_ok-row.ensures.cases.1 c.in_ok-row-2.ensures.1 c.in_ok-column.ensures.1,
)
