use Rattle.dv_cells.proofs.NoItem.{no_removal}
use Rattle.dv_cells.proofs.sheets.removal.Goals as goal

pub returns-in_err-version : goal.returns-in_err-version
returns-in_err-version c = rw c.from_residual-in_err-version.ensures (no_removal c.args.key.now c.args.value.now c.in_err-version.ensures)
