use Rattle.dv_cells.specs.Bytes.{flag_bytes, id_bytes}
use Rattle.dv_cells.proofs.Parts.{joined}
use Rattle.dv_cells.proofs.values.read_flagged.Goals as goal

pub returns : goal.returns
returns c = (
  (c.in_ok-read_id.ensures.0, tt),
  joined 16 c.args.bytes.now c.in_ok-id.id.now c.in_ok-id.flag.now (id_bytes c.in_ok-read_id.field-0) (flag_bytes c.in_ok-read_flag.field-0)
      c.in_ok-id.ensures.cases.0 c.in_ok-id.ensures.cases.1 c.in_ok-read_id.ensures.1 c.in_ok-read_flag.ensures.1,
)
