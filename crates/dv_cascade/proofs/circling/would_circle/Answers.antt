use Rattle.std.proofs.Common.{refl, sym, subst}
use Rattle.std.proofs.lemmas.Bool.{true≢false}
use Rattle.dv_cascade.specs.Chains.{Reaches}
use Rattle.dv_cascade.specs.Circles.{IsUnderParent}
use Rattle.dv_cascade.proofs.Among.{apart, row_is}
use Rattle.dv_cascade.proofs.Closures.{reaches_itself}
use Rattle.dv_cascade.proofs.Climbing.{lower, further, nearer, topmost}
use Rattle.dv_cascade.proofs.circling.would_circle.Goals as goal

pub parents-smaller : goal.parents-smaller
parents-smaller c = lower c.args.store.now.present c.args.definition.now c.requires.no_circle c.parents.above c.in-Some.next (sym c.in-Some.ensures.value)

pub parents-preserved : goal.parents-preserved
parents-preserved c =
    let w = c.args.store.now.present in
    let d = c.args.definition.now in (
      λ r. c.parents.invariant.0 (nearer w d c.parents.above c.in-Some.next c.args.row (sym c.in-Some.ensures.value) r),
      λ r. further w d c.parents.above c.in-Some.next c.args.row c.requires.one_parent (sym c.in-Some.ensures.value) (apart c.parents.above c.args.row (sym c.parents-test.ensures)) (c.parents.invariant.1 r),
    )

pub returns-in-None : goal.returns-in-None
returns-in-None c = (
  λ h. absurd (true≢false (sym h)),
  λ r. absurd (topmost c.args.store.now.present c.args.definition.now c.parents.above c.args.row c.requires.one_parent (sym c.in-None.ensures.value) (apart c.parents.above c.args.row (sym c.parents-test.ensures)) (c.parents.invariant.1 r)),
)

pub returns : goal.returns
returns c = (
  λ _. c.parents.invariant.0 (subst (λ k. Reaches (IsUnderParent c.args.store.now.present c.args.definition.now) k c.args.row) (sym (row_is c.parents.above c.args.row (sym c.parents-test.ensures))) (reaches_itself (IsUnderParent c.args.store.now.present c.args.definition.now) c.args.row)),
  λ _. refl,
)
