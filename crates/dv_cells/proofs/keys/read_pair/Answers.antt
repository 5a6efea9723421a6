use Rattle.dv_cells.specs.Bytes.{id_bytes}
use Rattle.dv_cells.proofs.Parts.{joined}
use Rattle.dv_cells.proofs.keys.read_pair.Goals as goal

pub returns : goal.returns
returns c = (
  (c.in_ok-read_id.ensures.0, c.in_ok-read_id-2.ensures.0),
  joined 16 c.args.bytes.now c.in_ok-first.first.now c.in_ok-first.second.now (id_bytes c.in_ok-read_id.field-0) (id_bytes c.in_ok-read_id-2.field-0)
      c.in_ok-first.ensures.cases.0 c.in_ok-first.ensures.cases.1 c.in_ok-read_id.ensures.1 c.in_ok-read_id-2.ensures.1,
)
