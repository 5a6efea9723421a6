use Rattle.std.proofs.Common.{◌^◌}
use Rattle.dv_units.specs.Membership.{is_in_team}
use Rattle.dv_roles.specs.Held.{team_allows}
use Rattle.dv_roles.specs.Seated.{most_after}
use Rattle.dv_roles.proofs.Least.{NoneUpTo}
use Rattle.dv_roles.proofs.directory.Directory.has_from_team.Given as goal

abbrev pub invariant-teams : goal.invariant-teams
invariant-teams l = NoneUpTo (is_in_team l.self.chart l.user) (team_allows l.self l.asked) l.after

abbrev pub decreases-teams : goal.decreases-teams
decreases-teams l = most_after (2 ^ 128) l.after
