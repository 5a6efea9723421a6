use Rattle.std.proofs.Common.{◌++◌, ◌∷◌, [], ap, ◌∙◌}
use Rattle.dv_shares.proofs.Principals.{shares-begun, shares-more, shares-end}
use Rattle.dv_shares.proofs.handing.share_with_granted.Goals as goal

pub principals-init : goal.principals-init
principals-init c = shares-begun c.args.store.now.present c.args.row c.args.shares.now.items

pub principals-preserved : goal.principals-preserved
principals-preserved c =
    shares-more c.args.store.now.present c.args.row c.principals.after c.in-Some.principal c.args.shares.now.items c.principals.shares.items c.push.new.self.items c.in-Some.ensures
    (c.in_ok-push.ensures.items ∙ ap (λ share. c.principals.shares.items ++ share ∷ []) c.share_of.ensures) c.principals.invariant

pub returns : goal.returns
returns c = shares-end c.args.store.now.present c.args.row c.principals.after c.args.shares.now.items c.principals.shares.items c.in_default.ensures c.principals.invariant
