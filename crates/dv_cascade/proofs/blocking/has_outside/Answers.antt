use Rattle.std.proofs.Common.{sym}
use Rattle.std.proofs.lemmas.Bool.{true≢false}
use Rattle.dv_cascade.proofs.Blocked.{child_key}
use Rattle.dv_cascade.proofs.blocking.has_outside.Goals as goal

pub returns-in-None : goal.returns-in-None
returns-in-None c = (
  λ h. absurd (true≢false (sym h)),
  λ h. absurd (c.in-None.ensures h.child.id (child_key c.args.store.now.present c.args.relationship.now c.args.set.now c.args.parent h.child h.is) tt),
)
