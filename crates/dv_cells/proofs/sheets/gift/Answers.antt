use Rattle.dv_cells.proofs.NoItem.{no_gift}
use Rattle.dv_cells.proofs.sheets.gift.Goals as goal

pub returns-in_err-principal : goal.returns-in_err-principal
returns-in_err-principal c = rw c.from_residual.ensures (no_gift c.args.key.now c.args.value.now c.in_err-principal.ensures)
