use Rattle.std.proofs.Common.{subst}
use Rattle.std.specs.Prelude.{IfOk}
use Rattle.dv_grant.specs.Retrieving.{retrieving_in, IsShownAs}
use Rattle.dv_grant.proofs.retrieving.show_named.Goals as goal

pub returns-in-Some : goal.returns-in-Some
returns-in-Some c =
    let world = c.args.store.now.present in
    subst (λ row. IfOk c.show.result (IsShownAs (retrieving_in world c.args.target.now c.args.names.now) row)) c.in-Some.ensures (c.show.ensures world)
