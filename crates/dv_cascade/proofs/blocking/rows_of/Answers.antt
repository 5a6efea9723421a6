use Rattle.std.proofs.Common.{refl, sym, ◌+◌}
use Rattle.dv_cascade.proofs.Blocked.{rows_more, rows_end, falls}
use Rattle.dv_cascade.proofs.blocking.rows_of.Goals as goal

pub rows-smaller : goal.rows-smaller
rows-smaller c = falls c.args.rows.now c.rows.next c.in-Some.row.now (sym c.in-Some.ensures)

pub rows-preserved : goal.rows-preserved
rows-preserved c = rows_more c.args.rows.now c.rows.found c.add.new.self c.rows.next (c.rows.next + 1) c.in-Some.row.now refl (sym c.in-Some.ensures) c.in_ok-add.ensures c.rows.invariant

pub returns : goal.returns
returns c = rows_end c.args.rows.now c.rows.found c.rows.next (sym c.in_default.ensures) c.rows.invariant
