use Rattle.std.proofs.Common.{sym, subst}
use Rattle.dv_schema.specs.Limits.{IsWithinLimits}
use Rattle.dv_schema.proofs.WithinLimits.{untold, within_limits}
use Rattle.dv_schema.proofs.form.read_object.Goals as goal

pub returns-in-Ok-clause-limits : goal.returns-in-Ok-clause-limits
returns-in-Ok-clause-limits c =
    let none = rw c.in-Ok-None.field-0-is at c.in-Ok-None.ensures in
    subst IsWithinLimits (sym c.in-Ok.ensures) (within_limits _ (untold _ (sym none)))
