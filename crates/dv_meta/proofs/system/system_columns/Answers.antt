use Rattle.std.proofs.Common.{refl, append_assoc}
use Rattle.std.specs.Str.{chars}
use Rattle.dv_meta.specs.Columns.{system_columns}
use Rattle.dv_meta.proofs.system.system_columns.Goals as goal

pub returns : goal.returns
unfolding system_columns chars
returns c = rw (c.in_ok-add-7.ensures, c.in_ok-add-6.ensures, c.in_ok-options.ensures, c.in_ok-add_owner.ensures, c.in_ok-add-5.ensures, c.in_ok-add-4.ensures, c.in_ok-add-3.ensures, c.in_ok-add-2.ensures, c.in_ok-add.ensures, c.new-columns.ensures, append_assoc) refl
