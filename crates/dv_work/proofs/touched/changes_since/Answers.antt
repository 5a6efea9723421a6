use Rattle.std.proofs.Common.{◌≡◌, ◌<◌, ◌+◌, ◌-◌, arith, ap, sym, ◌∙◌, take, drop, length, length-drop}
use Rattle.std.specs.Prelude.{slice_index_or}
use mir.Val.{bool_byte}
use Rattle.std.proofs.lemmas.List.{get_or_past, take_all}
use Rattle.dv_work.specs.Journal.{before_all, entries_of, kept_count, states_of}
use Rattle.dv_work.proofs.JournalLaws.{back_at-history_of, kept_count-push, length-states_of}
use Rattle.dv_work.proofs.TouchLaws.{cut_before, some_kept}
use Rattle.dv_work.proofs.touched.changes_since.Goals as goal

pub loop-left-preserved : goal.loop-left-preserved
loop-left-preserved g c =
    let inv = c.loop-left.invariant in
    let journal = c.args.journal.now in
    let change = c.index-journal-first.result in
    let lt : c.args.mark < kept_count (take c.loop-left.first journal) = omega (arith, c.loop-left-test.true, inv.counted) in
    let some : 0 < c.loop-left.first = some_kept journal c.loop-left.first (omega (arith, lt)) in
    let cut = cut_before journal c.loop-left.first change some inv.within c.index-journal-first.is in
    let counted : c.loop-left.left ≡ kept_count (take (c.loop-left.first - 1) journal) + bool_byte change.kept = inv.counted ∙ ap kept_count cut.0 ∙ kept_count-push (take (c.loop-left.first - 1) journal) change in
    let taken : c.from-left.result ≡ bool_byte change.kept = c.from-left.ensures ∙ ap (λ x. bool_byte x.kept) (sym c.index-journal-first.is) in
    record {
      within = omega (arith, inv.within);
      counted = omega (arith, counted, taken);
      same = λ ps. rw cut.1 (back_at-history_of g.K.Ord.cmp (take (c.loop-left.first - 1) journal) (take c.loop-left.first journal) change (before_all g.K.Ord.cmp (drop c.loop-left.first journal) ps) c.args.mark cut.0 lt ∙ inv.same ps);
    }

pub returns : goal.returns
returns g c = λ ps.
    let inv = c.loop-left.invariant in
    let journal = c.args.journal.now in
    let since = drop c.loop-left.first journal in
    let old = before_all g.K.Ord.cmp since ps in
    let all = states_of g.K.Ord.cmp (take c.loop-left.first journal) old in
    let same : slice_index_or all c.args.mark (entries_of old) ≡ slice_index_or (states_of g.K.Ord.cmp journal ps) c.args.mark (entries_of ps) = ap (λ h. h.present) (inv.same ps) in
    sym same
    ∙ get_or_past all c.args.mark (entries_of old) (omega (arith, c.loop-left-test.false, inv.counted, length-states_of g.K.Ord.cmp (take c.loop-left.first journal) old))
    ∙ ap (λ cs. entries_of (before_all g.K.Ord.cmp cs ps)) (sym (take_all (length journal - c.loop-left.first) since (omega (arith, length-drop c.loop-left.first journal))))
