use Rattle.dv_units.specs.Chart.{has}
use Rattle.dv_units.specs.Cursors.{is_past}
use Rattle.dv_units.specs.Index.{chart_of}
use Rattle.dv_units.specs.Membership.{is_default_team}
use Rattle.std.specs.Prelude.{◌&&◌, nat_lt}
use Rattle.dv_units.proofs.TeamLaws.{next-team}
use Rattle.dv_units.proofs.units.Units.team_after.Goals as goal

pub returns : goal.returns
returns c =
    let s = c.self.inside in
    let from = c.unwrap_or-from.result in
    next-team c.args.self.now (chart_of s.units.entries s.users.entries s.teams.entries s.members.keys) s.joined.keys c.self.view_is c.self.invariant c.args.user from c.args.after c.lesser.result c.unwrap_or-from.ensures
    (c.lesser.ensures (λ team. is_default_team c.args.self.now c.args.user team && is_past c.args.after team) (λ team. has s.joined.keys (c.args.user, team) && nat_lt from.0 team.0) c.default_past.ensures c.second_past-listed.ensures)
