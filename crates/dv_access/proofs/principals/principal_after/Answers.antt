use Rattle.std.specs.Prelude.{◌||◌}
use Rattle.dv_units.specs.Chart.{is_unit, is_user, is_team}
use Rattle.dv_access.proofs.LeastIds.{lesser_is}
use Rattle.dv_access.proofs.principals.principal_after.Goals as goal

pub returns : goal.returns
returns c =
    let chart = c.args.units.now in
    rw (c.lesser.ensures, c.lesser-team.ensures) (lesser_is (is_user chart) (λ id. is_team chart id || is_unit chart id) c.args.after c.user_after.result _ c.user_after.ensures
    (lesser_is (is_team chart) (is_unit chart) c.args.after c.team_after.result c.unit_after.result c.team_after.ensures c.unit_after.ensures))
