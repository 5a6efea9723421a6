-- Where a walk over what a user holds stands.
use Rattle.std.specs.Prelude.{ℕ, ◌+◌, ◌-◌, ◌*◌, ◌^◌, Bool, true, Option, Some, None}
use Rattle.dv_value.specs.declared.id.Id.{Id}
use Rattle.dv_units.specs.Membership.{is_in_team}
use Rattle.dv_roles.specs.State.{State}

-- at the user's own seat, or at that of one of its teams
abbrev pub is_seated : State → Id → Option Id → Bool
is_seated d user None = true
is_seated d user (Some team) = is_in_team d.chart user team

-- a number that falls from team to team, where their ids are below a number
abbrev pub most_after : ℕ → Option Id → ℕ
most_after n None = n + 1
most_after n (Some team) = n - team.0

-- a number that falls with each step of a walk: at each seat there are four depths to look at
abbrev pub steps_left : Option Id → ℕ → ℕ
steps_left team depth = most_after (2 ^ 128) team * 5 + (4 - depth)
