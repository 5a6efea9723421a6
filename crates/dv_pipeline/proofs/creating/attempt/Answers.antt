use Rattle.std.proofs.Common.{◌≡◌, ◌≤◌, ap, sym, subst, ◌∙◌}
use Rattle.dv_store.specs.World.{bumped, id_drawn, row_put, row_total, most_rows}
use Rattle.dv_pipeline.specs.Creating.{creating_in, created, with_row, IsLimit}
use Rattle.dv_message.specs.Versions.{stop_of}
use Rattle.dv_pipeline.proofs.Making.{put_is, row_limit, version_limit, no_limit, chosen_stays, drawn_is, id_limit}
use Rattle.dv_pipeline.proofs.creating.attempt.Goals as goal

pub returns-in-Err-clause-err : goal.returns-in-Err-clause-err
returns-in-Err-clause-err c =
    let k = creating_in c.args.store.now.present c.args.creation.now in
    subst (IsLimit k) (sym (c.stop_of.ensures ∙ ap stop_of c.in-Err.ensures.err)) (row_limit k _ (put_is k c.args.id c.args.row c.requires.id c.requires.row))

pub returns-in-Err-bump-clause-err : goal.returns-in-Err-bump-clause-err
returns-in-Err-bump-clause-err c =
    let k = creating_in c.args.store.now.present c.args.creation.now in
    let put : c.put_row.new.self.present ≡ with_row k = ap (λ h. h.present) c.in_default.ensures.ok ∙ put_is k c.args.id c.args.row c.requires.id c.requires.row in
    let few : row_total c.put_row.new.self.present ≤ most_rows = subst (λ v. row_total v ≤ most_rows) (sym (ap (λ h. h.present) c.in_default.ensures.ok)) c.in_default.ensures.within in
    subst (IsLimit k) (sym (c.stop_of-in-Err-bump.ensures ∙ ap stop_of c.in-Err-bump.ensures.err)) (version_limit k c.put_row.new.self.present put few)

pub returns-then-is_some-clause-ok : goal.returns-then-is_some-clause-ok
unfolding created
returns-then-is_some-clause-ok c =
    let k = creating_in c.args.store.now.present c.args.creation.now in
    let put : c.put_row.new.self.present ≡ with_row k = ap (λ h. h.present) c.in_default.ensures.ok ∙ put_is k c.args.id c.args.row c.requires.id c.requires.row in
    let bump : c.bump.new.self.present ≡ bumped (with_row k) = ap (λ h. h.present) c.in_default-bump.ensures.ok ∙ ap bumped put in
    bump ∙ sym (chosen_stays k.chosen (bumped (with_row k)) c.if-is_some.ensures)

pub returns-then-is_some-clause-within : goal.returns-then-is_some-clause-within
returns-then-is_some-clause-within c =
    let k = creating_in c.args.store.now.present c.args.creation.now in
    let put : c.put_row.new.self.present ≡ with_row k = ap (λ h. h.present) c.in_default.ensures.ok ∙ put_is k c.args.id c.args.row c.requires.id c.requires.row in
    let few : row_total c.put_row.new.self.present ≤ most_rows = subst (λ v. row_total v ≤ most_rows) (sym (ap (λ h. h.present) c.in_default.ensures.ok)) c.in_default.ensures.within in
    no_limit k c.put_row.new.self.present put few c.in_default-bump.ensures.within

pub returns-in-Ok-clause-ok : goal.returns-in-Ok-clause-ok
unfolding created
returns-in-Ok-clause-ok c =
    let k = creating_in c.args.store.now.present c.args.creation.now in
    let put : c.put_row.new.self.present ≡ with_row k = ap (λ h. h.present) c.in_default.ensures.ok ∙ put_is k c.args.id c.args.row c.requires.id c.requires.row in
    let bump : c.bump.new.self.present ≡ bumped (with_row k) = ap (λ h. h.present) c.in_default-bump.ensures.ok ∙ ap bumped put in
    ap (λ h. h.present) c.in-Ok.ensures.ok ∙ ap id_drawn bump ∙ sym (drawn_is k.chosen (bumped (with_row k)) c.if-is_some.ensures)

pub returns-in-Ok-clause-within : goal.returns-in-Ok-clause-within
returns-in-Ok-clause-within c =
    let k = creating_in c.args.store.now.present c.args.creation.now in
    let put : c.put_row.new.self.present ≡ with_row k = ap (λ h. h.present) c.in_default.ensures.ok ∙ put_is k c.args.id c.args.row c.requires.id c.requires.row in
    let few : row_total c.put_row.new.self.present ≤ most_rows = subst (λ v. row_total v ≤ most_rows) (sym (ap (λ h. h.present) c.in_default.ensures.ok)) c.in_default.ensures.within in
    no_limit k c.put_row.new.self.present put few c.in_default-bump.ensures.within

pub returns-in-Err-fresh_id-clause-err : goal.returns-in-Err-fresh_id-clause-err
unfolding row_put with_row
returns-in-Err-fresh_id-clause-err c =
    let k = creating_in c.args.store.now.present c.args.creation.now in
    let put : c.put_row.new.self.present ≡ with_row k = ap (λ h. h.present) c.in_default.ensures.ok ∙ put_is k c.args.id c.args.row c.requires.id c.requires.row in
    let bump : c.bump.new.self.present ≡ bumped (with_row k) = ap (λ h. h.present) c.in_default-bump.ensures.ok ∙ ap bumped put in
    subst (IsLimit k) (sym (c.stop_of-in-Err-fresh_id.ensures ∙ ap stop_of c.in-Err-fresh_id.ensures.err))
    (id_limit k c.bump.new.self.present.last_id (ap (λ v. v.last_id) bump) c.requires.left c.if-is_some.ensures)
