use Rattle.std.proofs.Common.{◌≡◌, ◌<◌, arith, ap, sym, ◌∙◌, length}
use Rattle.dv_work.specs.History.{back_at}
use Rattle.dv_work.specs.Journal.{history_of, kept_count}
use Rattle.dv_work.proofs.HistoryLaws.{back_at-present}
use Rattle.dv_work.proofs.JournalLaws.{IsWhole-undone, back_at-history_of, length-states_of, bool_byte-le}
use Rattle.dv_work.proofs.shelf.Shelf.undo_to.Goals as goal

pub loop-self-init : goal.loop-self-init
loop-self-init g c =
    let states = length-states_of g.K.Ord.cmp c.self.inside.journal.items c.self.inside.places.entries in
    record {
      whole = c.self.invariant;
      marked = omega (arith, c.requires, c.self.invariant.counted, states, ap (λ h. length h.earlier) c.self.view_is);
      same = ap (λ h. back_at h c.args.mark) c.self.view_is;
    }

pub returns-after-loop-self : goal.returns-after-loop-self
returns-after-loop-self g c =
    let inside = c.loop-self.self-inside in
    let inv = c.loop-self.invariant in
    let states = length-states_of g.K.Ord.cmp inside.journal.items inside.places.entries in
    let h = history_of g.K.Ord.cmp inside.places.entries inside.journal.items in
    let last : c.args.mark ≡ length h.earlier = omega (arith, c.loop-self-test.false, inv.marked, inv.whole.counted, states) in
    sym (back_at-present h c.args.mark last) ∙ inv.same

pub overflow_sub-self : goal.overflow_sub-self
overflow_sub-self g c = rw c.from.ensures (IsWhole-undone g.K.Ord.cmp _ _ c.in-Some.change _ _ c.in-Some.ensures.items c.loop-self.invariant.whole).0

pub undo-requires : goal.undo-requires
undo-requires g c = (IsWhole-undone g.K.Ord.cmp _ _ c.in-Some.change _ _ c.in-Some.ensures.items c.loop-self.invariant.whole).1

pub loop-self-preserved : goal.loop-self-preserved
loop-self-preserved g c =
    let lt : c.args.mark < kept_count c.loop-self.self-inside.journal.items = omega (arith, c.loop-self-test.true, c.loop-self.invariant.whole.counted) in
    rw (c.undo.ensures, c.from.ensures) (record {
      whole = (IsWhole-undone g.K.Ord.cmp _ _ c.in-Some.change _ _ c.in-Some.ensures.items c.loop-self.invariant.whole).2;
      marked = omega (arith, c.loop-self-test.true, bool_byte-le c.in-Some.change.kept);
      same = back_at-history_of g.K.Ord.cmp _ _ c.in-Some.change _ c.args.mark c.in-Some.ensures.items lt ∙ c.loop-self.invariant.same;
    })
