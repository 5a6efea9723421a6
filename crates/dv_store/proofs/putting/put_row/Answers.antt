use Rattle.std.proofs.Common.{◌≤◌, ap, sym, subst, ◌∙◌, arith}
use Rattle.dv_store.specs.World.{most_rows}
use Rattle.dv_store.specs.Kept.{row_made, IsWell}
use Rattle.dv_store.proofs.Puts.{world-row_made, IsWell-row_made}
use Rattle.dv_store.proofs.putting.put_row.Goals as goal

pub returns-in-Ok-clause-ok : goal.returns-in-Ok-clause-ok
returns-in-Ok-clause-ok c =
    let p = c.args.cells.now.present in
    let n = c.rows_after-rows.result in
    let few : n ≤ most_rows = omega (arith, c.if-rows-gt-MOST_ROWS.false) in
    record {
      world = ap (λ h. h.present.world) c.in-Ok.ensures.ok ∙ ap (λ b. (row_made p c.args.key c.args.row n b).world) c.has_row-there.ensures ∙ world-row_made p c.args.key c.args.row n;
      well = subst IsWell (sym (ap (λ h. h.present) c.in-Ok.ensures.ok)) (IsWell-row_made p c.args.key c.args.row n c.has_row-there.result c.requires (c.rows_after-rows.ensures c.args.row) few);
      earlier = ap (λ h. h.earlier) c.in-Ok.ensures.ok;
    }
