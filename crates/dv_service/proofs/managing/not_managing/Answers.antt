use Rattle.std.proofs.Common.{refl}
use Rattle.std.specs.Str.{chars}
use Rattle.dv_service.proofs.managing.not_managing.Goals as goal

pub returns : goal.returns
unfolding chars
returns c = rw (c.in_ok-from_str.ensures, c.in_ok-from_str-2.ensures) refl
