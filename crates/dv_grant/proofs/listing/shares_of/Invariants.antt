use Rattle.std.proofs.Common.{List, ◌++◌, ◌^◌}
use Rattle.std.specs.FinMap as map
use Rattle.dv_store.specs.Keys.{grant_key}
use Rattle.dv_request.specs.declared.reply.Share.{Share}
use Rattle.dv_roles.specs.Seated.{most_after}
use Rattle.dv_message.specs.Scenes.{targeted_in}
use Rattle.dv_grant.specs.Listing.{AreShares}
use Rattle.dv_grant.proofs.Telling.{ArePast}
use Rattle.dv_grant.proofs.listing.shares_of.Given as goal

abbrev pub invariant-shares : goal.invariant-shares
invariant-shares l = (rest : List Share)
    → ArePast (λ principal. map.get l.fn.store.present.grants (grant_key l.fn.target.number l.fn.target.id principal)) l.after rest
    → AreShares (targeted_in l.fn.store.present l.fn.target) (l.listed ++ rest)

abbrev pub decreases-shares : goal.decreases-shares
decreases-shares l = most_after (2 ^ 128) l.after
