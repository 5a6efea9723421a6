use Rattle.std.proofs.Common.{refl, sym}
use mathlib.Core.Bool.{true≢false}
use Rattle.dv_cells.proofs.Listed.{Ascend-first, Ascend-none}
use Rattle.dv_cells.proofs.roles.ascend.Goals as goal

pub returns-then-not-begins_after : goal.returns-then-not-begins_after
returns-then-not-begins_after c = (
  λ e. absurd (true≢false (sym e)),
  λ all. c.if-not-begins_after.ensures.1 ((Ascend-first c.loop-first.rest.now c.in-Some.first.now c.in-Some.after.now c.in-Some.ensures.cases.0).0 (c.loop-first.invariant.1 all)).0,
)

pub loop-first-preserved : goal.loop-first-preserved
loop-first-preserved c =
    let split = Ascend-first c.loop-first.rest.now c.in-Some.first.now c.in-Some.after.now c.in-Some.ensures.cases.0 in
    (λ rest. c.loop-first.invariant.0 (split.1 (c.if-not-begins_after.ensures.0 refl, rest)), λ all. (split.0 (c.loop-first.invariant.1 all)).1)

pub returns : goal.returns
returns c = (λ _. c.loop-first.invariant.0 (Ascend-none c.loop-first.rest.now c.in_default.ensures.cases), λ _. refl)
