use Rattle.std.proofs.Common.{List, ◌++◌, ◌^◌}
use Rattle.std.specs.Prelude.{None}
use Rattle.dv_value.specs.declared.id.Id.{Id}
use Rattle.dv_roles.specs.Seated.{most_after}
use Rattle.dv_pipeline.proofs.Teams.{Walks}
use Rattle.dv_pipeline.proofs.caller.teams_of.Given as goal

abbrev pub invariant-teams : goal.invariant-teams
invariant-teams l = (rest : List Id) → Walks l.fn.units l.fn.user l.after rest → Walks l.fn.units l.fn.user None (l.teams ++ rest)

abbrev pub decreases-teams : goal.decreases-teams
decreases-teams l = most_after (2 ^ 128) l.after
