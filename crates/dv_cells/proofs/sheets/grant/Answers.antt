use Rattle.dv_cells.proofs.NoItem.{no_grant}
use Rattle.dv_cells.proofs.sheets.grant.Goals as goal

pub returns-in_err-direct : goal.returns-in_err-direct
returns-in_err-direct c = rw c.from_residual-in_err-direct.ensures (no_grant c.args.key.now c.args.value.now c.in_err-direct.ensures)
