use Rattle.std.proofs.Common.{sym, ◌∙◌}
use Rattle.dv_units.specs.Membership.{is_in_team}
use Rattle.dv_roles.specs.Held.{team_allows}
use Rattle.dv_roles.proofs.GiftLaws.{has_from_team-some, has_from_team-none}
use Rattle.dv_roles.proofs.Least.{least-there, none-there}
use Rattle.dv_roles.proofs.directory.Directory.has_from_team.Goals as goal

pub returns-then-team_allows : goal.returns-then-team_allows
returns-then-team_allows c =
    let d = c.args.self.now in
    let team = c.in-Some.team in
    sym (has_from_team-some d c.args.asked c.args.user team (least-there (is_in_team d.chart c.args.user) c.teams.after team c.in-Some.ensures) (sym c.team_allows.ensures ∙ c.if-team_allows.true))

pub returns : goal.returns
returns c =
    let d = c.args.self.now in
    sym (has_from_team-none d c.args.asked c.args.user (none-there (is_in_team d.chart c.args.user) (team_allows d c.args.asked) c.teams.after c.teams.invariant c.in_default.ensures))
