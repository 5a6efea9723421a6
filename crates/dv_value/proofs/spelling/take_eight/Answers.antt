use Rattle.std.proofs.Common.{arith}
use Rattle.dv_value.proofs.Sixteen.{be_bytes_8_of}
use Rattle.dv_value.proofs.spelling.take_eight.Goals as goal

pub returns-in-Some : goal.returns-in-Some
returns-in-Some c =
    let h = c.in-Some.ensures.cases in
    record {
      number_front = be_bytes_8_of c.args.body.now c.in-Some.bytes.now c.from_be_bytes.result h.enough h.same (λ i. omega (arith, c.type_inv.body i)) c.from_be_bytes.ensures;
      number_within = h.enough;
      number_fits = c.from_be_bytes.type_inv;
    }
