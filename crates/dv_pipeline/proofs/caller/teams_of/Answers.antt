use Rattle.std.proofs.Common.{◌∷◌, [], subst, append_assoc, append-nil}
use Rattle.std.specs.Prelude.{None}
use Rattle.dv_pipeline.proofs.Teams.{Walks, walk_is}
use Rattle.dv_pipeline.proofs.caller.teams_of.Goals as goal

pub teams-preserved : goal.teams-preserved
unfolding Walks
teams-preserved c = λ rest h. rw (c.in_ok-push.ensures.ok, append_assoc c.teams.teams (c.in-Some.team ∷ []) rest)
    (c.teams.invariant (c.in-Some.team ∷ rest) (c.in-Some.ensures, h))

pub returns : goal.returns
unfolding Walks
returns c = walk_is c.args.units.now c.args.user c.teams.teams
    (subst (Walks c.args.units.now c.args.user None) (append-nil c.teams.teams) (c.teams.invariant [] c.in_default.ensures))
