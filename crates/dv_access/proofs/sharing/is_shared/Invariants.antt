use Rattle.std.proofs.Common.{◌≡◌, ◌^◌}
use Rattle.std.specs.Prelude.{IsTrue, false}
use Rattle.dv_value.specs.declared.id.Id.{Id}
use Rattle.dv_units.specs.Cursors.{is_past}
use Rattle.dv_units.specs.Membership.{is_in_team}
use Rattle.dv_roles.specs.Seated.{most_after}
use Rattle.dv_store.specs.World.{grant_at}
use Rattle.dv_access.specs.Rights.{grant_has}
use Rattle.dv_access.proofs.sharing.is_shared.Given as goal

abbrev pub invariant-teams : goal.invariant-teams
invariant-teams l = (team : Id) → IsTrue (is_in_team l.fn.directory.chart l.fn.user team) → is_past l.after team ≡ false → grant_has (grant_at l.fn.store.present.grants l.fn.table l.fn.id team) l.fn.action ≡ false

abbrev pub decreases-teams : goal.decreases-teams
decreases-teams l = most_after (2 ^ 128) l.after
