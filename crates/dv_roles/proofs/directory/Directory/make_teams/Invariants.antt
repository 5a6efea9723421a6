use Rattle.std.proofs.Common.{◌≡◌, drop}
use Rattle.dv_roles.specs.Beginning.{each, making_team}
use Rattle.dv_roles.proofs.directory.Directory.make_teams.Given as goal

abbrev pub invariant-loop-team : goal.invariant-loop-team
invariant-loop-team l = each making_team l.fn.self l.teams ≡ each making_team l.self (drop l.team-index l.teams)
