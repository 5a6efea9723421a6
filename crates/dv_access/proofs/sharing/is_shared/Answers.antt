use Rattle.std.proofs.Common.{sym, subst}
use Rattle.std.specs.Prelude.{None, Some}
use Rattle.dv_units.specs.Membership.{IsNextTeam}
use Rattle.dv_store.specs.Cursors.{told_of}
use Rattle.dv_access.specs.Rights.{grant_has}
use Rattle.dv_store.specs.World.{grant_at}
use Rattle.dv_access.proofs.SharedRows.{none_more, not_shared}
use Rattle.dv_access.proofs.sharing.is_shared.Goals as goal

pub teams-preserved : goal.teams-preserved
teams-preserved c = none_more c.args.directory.now.chart c.args.user c.teams.after c.in-Some.team (λ team. grant_has (grant_at c.args.store.now.present.grants c.args.table c.args.id team) c.args.action) (subst (λ chart. IsNextTeam chart c.args.user c.teams.after (Some c.in-Some.team)) c.units.ensures c.in-Some.ensures) c.teams.invariant (sym c.if-grant_has-2.ensures)

pub returns : goal.returns
returns c = not_shared c.args.directory.now (told_of c.args.store.now.present) c.args.user c.args.action c.args.table c.args.id c.teams.after (sym c.if-grant_has.ensures) c.teams.invariant (subst (λ chart. IsNextTeam chart c.args.user c.teams.after None) c.units.ensures c.in_default.ensures)
