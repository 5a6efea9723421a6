use Rattle.std.proofs.Common.{refl, subst}
use Rattle.std.specs.Option.{option_map}
use Rattle.dv_store.specs.Cursors.{IsNext}
use Rattle.dv_access.proofs.LeastIds.{Has, told_is}
use Rattle.dv_access.proofs.principals.team_after.Goals as goal

pub returns-in-Some : goal.returns-in-Some
returns-in-Some c =
    let next = c.listed_team_after.ensures in
    subst (λ r. IsNext (Has c.args.units.now.teams) c.args.after (option_map (λ x. x.0) r)) c.in-Some.is (told_is c.args.after c.args.units.now.teams (λ e. (e.0, e.1.unit, e.1.access)) (λ x. x.0) (λ e. refl) next.ascends c.listed_team_after.result next.next)

pub returns-in-None : goal.returns-in-None
returns-in-None c =
    let next = c.listed_team_after.ensures in
    subst (λ r. IsNext (Has c.args.units.now.teams) c.args.after (option_map (λ x. x.0) r)) c.in-None.is (told_is c.args.after c.args.units.now.teams (λ e. (e.0, e.1.unit, e.1.access)) (λ x. x.0) (λ e. refl) next.ascends c.listed_team_after.result next.next)
