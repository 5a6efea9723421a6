use Rattle.dv_cells.proofs.NoItem.{no_member}
use Rattle.dv_cells.proofs.sheets.member.Goals as goal

pub returns-in_err-team : goal.returns-in_err-team
returns-in_err-team c = rw c.from_residual.ensures (no_member c.args.key.now c.args.value.now c.in_err-team.ensures)
