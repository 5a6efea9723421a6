use Rattle.std.proofs.Common.{refl, sym}
use Rattle.std.proofs.lemmas.Bool.{true≢false}
use Rattle.dv_cascade.proofs.Blocked.{falls, none_end, some_is}
use Rattle.dv_cascade.proofs.blocking.is_referred_to.Goals as goal

pub returns-then-has_outside : goal.returns-then-has_outside
returns-then-has_outside c = (
  λ _. some_is c.args.store.now.present c.args.relationship.now c.args.set.now c.parents.next c.in-Some.parent (sym c.in-Some.ensures.value) (c.if-has_outside.ensures.0 refl),
  λ _. refl,
)

pub parents-smaller : goal.parents-smaller
parents-smaller c = falls c.args.set.now c.parents.next c.in-Some.parent (sym c.in-Some.ensures.value)

pub returns : goal.returns
returns c = (
  λ h. absurd (true≢false (sym h)),
  λ h. absurd (none_end c.args.store.now.present c.args.relationship.now c.args.set.now c.parents.next (sym c.in_default.ensures.value) c.parents.invariant h),
)
