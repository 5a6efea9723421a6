use Rattle.std.proofs.Common.{◌≡◌, [], ◌∷◌, ap, sym, subst, ◌∙◌}
use Rattle.std.specs.Prelude.{false}
use Rattle.dv_work.specs.History.{with_present, with_state}
use Rattle.dv_store.specs.declared.keys.DirtyKey.{DirtyKey}
use Rattle.dv_store.specs.Kept.{with_row, with_marks, IsWell}
use Rattle.dv_store.proofs.Written.{on_ok}
use Rattle.dv_store.proofs.Rolls.{world-rolled, IsWell-rolled}
use Rattle.dv_store.proofs.rolling.set_rollup.Goals as goal

pub returns-clause-ok : goal.returns-clause-ok
returns-clause-ok c =
    let p = c.args.cells.now.present in
    let key = c.args.key in
    let column = c.args.calculated.column in
    let row = c.in_ok-row-in-Some.row in
    let own : DirtyKey = record { row = key; column = column } in
    let replaced = c.in_ok-replace.ensures.ok ∙ ap (λ h. with_present h (with_row h.present key row)) c.in_ok-keep.ensures.ok in
    on_ok c.set_dirty.result c.set_dirty.ensures.ok (λ ok.
    let all : c.set_dirty.new.self ≡ with_state c.args.cells.now (with_marks (with_row p key row) false (own ∷ [])) = ok ∙ ap (λ h. with_present h (with_marks h.present false (own ∷ []))) replaced in
    record {
      world = ap (λ h. h.present.world) all ∙ world-rolled p key column c.args.calculated.value c.args.calculated.state c.args.calculated.date c.in-Some.row.now row c.in-Some.ensures c.in_ok-row-in-Some.ensures;
      well = subst IsWell (sym (ap (λ h. h.present) all)) (IsWell-rolled p key column row c.requires.well c.requires.there);
      earlier = ap (λ h. h.earlier) all;
    })
