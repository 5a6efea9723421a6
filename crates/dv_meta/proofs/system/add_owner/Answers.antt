use Rattle.std.proofs.Common.{refl}
use Rattle.std.specs.Str.{chars}
use Rattle.dv_meta.proofs.system.add_owner.Goals as goal

pub returns-in_ok-add : goal.returns-in_ok-add
unfolding chars
returns-in_ok-add c = rw (c.in_ok-add.ensures, c.if-user_owned.true) refl
