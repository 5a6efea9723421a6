use Rattle.std.proofs.Common.{◌≡◌, ◌≤◌, ap, sym, subst, ◌∙◌, arith}
use Rattle.dv_store.specs.World.{most_rows}
use Rattle.dv_store.specs.Kept.{with_grants_gone, IsWell}
use Rattle.dv_store.proofs.Written.{on_ok}
use Rattle.dv_store.proofs.Removes.{world-with_row_gone, IsWell-with_row_gone, few-row_removed}
use Rattle.dv_store.proofs.removing.remove_row.Goals as goal

pub returns-clause-ok : goal.returns-clause-ok
returns-clause-ok c =
    let p = c.args.cells.now.present in
    let key = c.args.key in
    let rows = c.rows_after-rows.result in
    let kept = c.in_ok-keep.ensures.ok in
    let step = c.in_ok-drop_grants.ensures.ok in
    let bare = c.drop_grants.new.cells.present in
    let gone : bare.world ≡ with_grants_gone p.world key = step.world ∙ ap (λ h. with_grants_gone h.present.world key) kept in
    let most = few-row_removed p key c.requires.well c.requires.there in
    let few : rows ≤ most_rows = omega (arith, most, c.rows_after-rows.ensures) in
    on_ok c.drop_rest.result c.drop_rest.ensures.ok (λ ok. record {
      world = ap (λ h. h.present.world) ok ∙ world-with_row_gone bare p.world key rows gone;
      well = subst IsWell (sym (ap (λ h. h.present) ok)) (IsWell-with_row_gone bare p.world key rows gone step.well c.rows_after-rows.ensures few);
      earlier = ap (λ h. h.earlier) ok ∙ step.earlier ∙ ap (λ h. h.earlier) kept;
    })
