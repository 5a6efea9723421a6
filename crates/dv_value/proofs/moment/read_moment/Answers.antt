use Rattle.std.proofs.Common.{arith}
use Rattle.dv_value.proofs.Moments.{other_length}
use Rattle.dv_value.proofs.moment.read_moment.Goals as goal

pub returns-then-text-ne20 : goal.returns-then-text-ne20
returns-then-text-ne20 c = other_length c.args.text.now (λ e. omega (arith, e, c.as_bytes-text.ensures.len))
