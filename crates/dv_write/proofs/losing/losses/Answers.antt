use Rattle.std.proofs.Common.{◌≤◌, ◌∙◌, sym, subst, length}
use Rattle.std.proofs.lemmas.List.Sums.{prefix_len-le-length}
use Rattle.dv_store.specs.Keys.{is_row}
use Rattle.dv_message.specs.Scenes.{setting_of}
use Rattle.dv_write.specs.Losing.{AreChanges, AreOrdered}
use Rattle.dv_write.proofs.Merging.{ends, shrinks, steps}
use Rattle.dv_write.proofs.losing.losses.Goals as goal

pub split_at-requires : goal.split_at-requires
split_at-requires c = subst (λ n. n ≤ length c.rows.left.now) (sym c.count_of-count.ensures) (prefix_len-le-length (λ lookup. is_row c.in-Some.row lookup.row) c.rows.left.now)

pub rows-smaller : goal.rows-smaller
rows-smaller c = shrinks c.rows.rows.now c.rows_behind-rows.result.now c.rows.left.now c.split_at.result.1.now c.in-Some.row c.count_of-count.result c.rows.invariant.ordered (sym c.first_row.ensures ∙ c.in-Some.is) c.count_of-count.ensures c.rows_behind-rows.ensures c.split_at.ensures.back

pub rows-preserved : goal.rows-preserved
rows-preserved c =
    let s = setting_of c.args.scene.now in
    let step = steps s c.args.set.now c.rows.rows.now c.args.lookups.now c.rows.left.now c.split_at.result.0.now c.split_at.result.1.now c.in-Some.row c.count_of-count.result c.in_ok-edit_of.field-0 c.rows.changes c.push.new.self c.rows.invariant.ordered (sym c.first_row.ensures ∙ c.in-Some.is) c.count_of-count.ensures c.split_at.ensures.front c.split_at.ensures.back c.in_ok-edit_of.ensures c.in_ok-push.ensures.ok c.rows.invariant.later in
    record {
      ordered = subst (λ rows. AreOrdered rows c.split_at.result.1.now) (sym c.rows_behind-rows.ensures) step.0;
      later = λ changes h. step.1 changes (subst (λ rows. AreChanges s rows c.split_at.result.1.now changes) c.rows_behind-rows.ensures h);
    }

pub returns : goal.returns
returns c = ends (setting_of c.args.scene.now) c.args.set.now c.rows.rows.now c.args.lookups.now c.rows.left.now c.rows.changes (sym c.first_row.ensures ∙ c.in_default.is) c.rows.invariant.later
