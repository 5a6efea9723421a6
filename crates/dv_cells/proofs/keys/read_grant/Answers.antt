use Rattle.dv_cells.specs.Bytes.{id_bytes, row_bytes}
use Rattle.dv_cells.proofs.Parts.{joined}
use Rattle.dv_cells.proofs.keys.read_grant.Goals as goal

pub returns : goal.returns
returns c = (
  (c.in_ok-row-2.ensures.0, c.in_ok-principal.ensures.0),
  joined 18 c.args.bytes.now c.in_ok-row.row.now c.in_ok-row.principal.now (row_bytes c.in_ok-row-2.row) (id_bytes c.in_ok-principal.principal)
      c.in_ok-row.ensures.cases.0 c.in_ok-row.ensures.cases.1 c.in_ok-row-2.ensures.1 c.in_ok-principal.ensures.1,
)
