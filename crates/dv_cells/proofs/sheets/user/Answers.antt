use Rattle.dv_cells.proofs.NoItem.{no_user}
use Rattle.dv_cells.proofs.sheets.user.Goals as goal

pub returns-in_err-unit : goal.returns-in_err-unit
returns-in_err-unit c = rw c.from_residual-in_err-unit.ensures (no_user c.args.key.now c.args.value.now c.in_err-unit.ensures)
