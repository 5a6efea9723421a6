use Rattle.std.proofs.Common.{sym, ap, ◌∙◌, arith}
use Rattle.std.specs.Int.{from_be_bytes, w128}
use Rattle.dv_cells.proofs.BigEndian.{be_bytes_16}
use Rattle.dv_cells.proofs.bytes.read_id.Goals as goal

pub returns-in-Ok : goal.returns-in-Ok
returns-in-Ok c = (
  c.from_be_bytes.type_inv,
  sym (be_bytes_16 c.args.bytes.now c.from_be_bytes.result c.in-Ok.ensures.1.long (λ i. omega (arith, c.type_inv.bytes i)) (c.from_be_bytes.ensures ∙ ap (from_be_bytes w128) c.in-Ok.ensures.1.same)),
)
