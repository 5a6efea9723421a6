use Rattle.std.proofs.Common.{refl, ◌∙◌, arith}
use Rattle.std.specs.Int.{to_be_bytes, w32}
use Rattle.dv_cells.specs.Bytes.{counters_bytes}
use Rattle.dv_cells.proofs.Parts.{front_is}
use Rattle.dv_cells.proofs.values.read_header.Goals as goal

pub returns-in_err-read_u32 : goal.returns-in_err-read_u32
returns-in_err-read_u32 c =
    rw c.from_residual-in_err-read_u32.ensures
    (λ numbers fits is. c.in_err-read_u32.ensures 1 (omega arith) (c.in_ok-layout.ensures.cases.0 ∙ front_is 4 c.args.bytes.now (to_be_bytes w32 1) (counters_bytes numbers) refl is))
