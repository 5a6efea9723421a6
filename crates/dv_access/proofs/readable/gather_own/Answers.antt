use Rattle.std.proofs.Common.{subst, ◌∙◌}
use Rattle.std.specs.Prelude.{None, Some}
use Rattle.dv_units.specs.Membership.{IsNextTeam}
use Rattle.dv_access.specs.Gathered.{Gathers, IsRowOfPrincipal}
use Rattle.dv_access.proofs.Walks.{own_more, own_end}
use Rattle.dv_access.proofs.LeastIds.{team_is}
use Rattle.dv_access.proofs.readable.gather_own.Goals as goal

pub teams-preserved : goal.teams-preserved
teams-preserved g c =
    let d = c.args.directory.now in
    let told = g.C.Cursors.told c.args.cursors.now in (
      own_more d.chart c.args.user (IsRowOfPrincipal d told c.args.user c.args.table)
          c.teams.after c.in-Some.team c.args.ids.now.items c.teams.ids.items c.gather_of_principal-in-Some.new.ids.items c.teams.invariant.0
          (team_is d.chart c.args.user c.teams.after (Some c.in-Some.team) (subst (λ chart. IsNextTeam chart c.args.user c.teams.after (Some c.in-Some.team)) c.units.ensures c.in-Some.ensures))
          (subst (λ t. Gathers (IsRowOfPrincipal d t c.args.user c.args.table c.in-Some.team) c.teams.ids.items c.gather_of_principal-in-Some.new.ids.items) c.teams.invariant.1 c.in_ok-gather_of_principal-2.ensures.gathers),
      c.gather_of_principal-in-Some.ensures.told ∙ c.teams.invariant.1,
    )

pub returns-clause-gathers : goal.returns-clause-gathers
returns-clause-gathers g c =
    let d = c.args.directory.now in
    let told = g.C.Cursors.told c.args.cursors.now in
    own_end d.chart c.args.user (IsRowOfPrincipal d told c.args.user c.args.table) c.teams.after c.args.ids.now.items c.teams.ids.items c.teams.invariant.0
    (team_is d.chart c.args.user c.teams.after None (subst (λ chart. IsNextTeam chart c.args.user c.teams.after None) c.units.ensures c.in_default.ensures))
