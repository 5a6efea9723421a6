use Rattle.std.proofs.Common.{◌≡◌, ◌<◌, ◌≤◌, ◌+◌, [], arith, subst, sym, ap, ◌∙◌, drop, length}
use Rattle.std.specs.Prelude.{slice_index_or}
use Rattle.dv_work.specs.Entries.{Tells, value_at}
use Rattle.dv_work.specs.History.{back_at}
use Rattle.dv_work.specs.Journal.{before_all, entries_of, states_of}
use Rattle.dv_work.proofs.TouchLaws.{told_step, drop_at, drop_past}
use Rattle.dv_work.proofs.shelf.Shelf.touched_since.Goals as goal

pub loop-change-preserved : goal.loop-change-preserved
loop-change-preserved g c = λ ps ascends start.
    let changes = c.changes_since-change-items.result.now in
    let change = c.change-item.result in
    let i = c.loop-change.change-index in
    let lt : i < length changes = omega (arith, c.loop-change-test.true) in
    let told = c.in_ok-touch.ensures in
    told_step g.met.K.Ord.total g.met.K.Key.exact change (drop (i + 1) changes) (drop i changes) (drop_at changes i change lt c.change-item.is)
    ps ascends c.loop-change.touched.entries c.touch.new.touched.entries (back_at c.args.self.now c.args.mark).present told.others told.told told.first (c.loop-change.invariant ps ascends start)

pub returns : goal.returns
returns g c = record {
  told = λ q.
      let R = g.K.Ord.cmp in
      let changes = c.changes_since-change-items.result.now in
      let places = c.self.inside.places.entries in
      let old = (back_at c.args.self.now c.args.mark).present in
      let touched = value_at R q c.loop-change.touched.entries in
      let start : entries_of (before_all R changes places) ≡ old = sym (c.changes_since-change-items.ensures places) ∙ ap (λ cs. slice_index_or (states_of R cs places) c.args.mark (entries_of places)) c.deref.ensures.value ∙ ap (λ h. (back_at h c.args.mark).present) c.self.view_is in
      let past : length changes ≤ c.loop-change.change-index = omega (arith, c.loop-change-test.false) in
      let none : drop c.loop-change.change-index changes ≡ [] = drop_past changes c.loop-change.change-index past in
      let told = subst (λ cs. Tells touched (value_at R q old) (value_at R q (entries_of (before_all R cs places)))) none (c.loop-change.invariant places c.len-ordered.ensures.ordered start q) in
      subst (λ es. Tells touched (value_at R q old) (value_at R q es)) (ap (λ h. h.present) c.self.view_is) told;
}
