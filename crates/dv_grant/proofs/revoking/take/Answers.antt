use Rattle.std.proofs.Common.{ap, sym, subst}
use Rattle.dv_shares.specs.Grants.{shared}
use Rattle.dv_grant.specs.Revoking.{revoking_in, IsRevoked}
use Rattle.dv_grant.proofs.Making.{revoked_as}
use Rattle.dv_grant.proofs.revoking.take.Goals as goal

pub returns-in-Ok-clause-ok : goal.returns-in-Ok-clause-ok
returns-in-Ok-clause-ok c =
    let r = revoking_in c.args.store.now.present c.args.target.now c.args.principal in
    subst (IsRevoked r) (sym c.in-Ok.ensures.ok.present) (revoked_as r c.in_ok-rows.ensures c.as_slice.ensures.value c.key_of.ensures)

pub returns-in-Ok-clause-shape : goal.returns-in-Ok-clause-shape
unfolding shared
returns-in-Ok-clause-shape c = ap (λ w. w.shape) c.in-Ok.ensures.ok.present

pub returns-in-Ok-clause-rows : goal.returns-in-Ok-clause-rows
unfolding shared
returns-in-Ok-clause-rows c = ap (λ w. w.rows) c.in-Ok.ensures.ok.present
