use Rattle.std.proofs.Common.{◌∷◌, [], subst, append_assoc, append-nil, refl}
use Rattle.std.specs.FinMap as map
use Rattle.dv_value.specs.declared.id.Id.{Id}
use Rattle.dv_store.specs.Keys.{grant_key}
use Rattle.dv_request.specs.declared.reply.Share.{Share}
use Rattle.dv_message.specs.Scenes.{targeted_in}
use Rattle.dv_grant.specs.Listing.{AreShares}
use Rattle.dv_grant.proofs.Telling.{more, none_past}
use Rattle.dv_grant.proofs.listing.shares_of.Goals as goal

pub shares-preserved : goal.shares-preserved
shares-preserved c = λ rest h.
    let rights = λ (principal : Id). map.get c.args.store.now.present.grants (grant_key c.args.target.now.number c.args.target.now.id principal) in
    let share : Share = record { principal = c.in-Some.principal; direct = c.grant-direct.result.0; inherited = c.grant-direct.result.1 } in
    rw (c.in_ok-push.ensures.ok, append_assoc c.shares.listed (share ∷ []) rest)
    (c.shares.invariant (share ∷ rest) (more rights c.shares.after c.in-Some.principal share rest c.in-Some.ensures refl c.grant-direct.ensures h))

pub returns : goal.returns
returns c =
    subst (AreShares (targeted_in c.args.store.now.present c.args.target.now)) (append-nil c.shares.listed)
    (c.shares.invariant [] (none_past (λ (principal : Id). map.get c.args.store.now.present.grants (grant_key c.args.target.now.number c.args.target.now.id principal)) c.shares.after c.in_default.ensures))
