use Rattle.std.proofs.Common.{rules, arith, ◌^◌}
use Rattle.dv_units.specs.Membership.{is_in_team}
use Rattle.dv_roles.specs.Reaches.{query_of}
use Rattle.dv_roles.proofs.Least.{most_after-least}
use Rattle.dv_roles.proofs.WalkLaws.{over, gone-on}
use Rattle.dv_roles.proofs.reach.Reach.go_on.Goals as goal

pub returns-in-Some-clause-goes_on : goal.returns-in-Some-clause-goes_on
returns-in-Some-clause-goes_on c =
    let r = c.args.self.now in (
      most_after-least (2 ^ 128) (is_in_team r.directory.now.chart r.user) r.team c.in-Some.team c.in-Some.ensures (search rules),
      gone-on (query_of r) r.team r.depth c.in-Some.team c.requires c.in-Some.ensures,
    )

pub returns-in-Some-clause-nearer : goal.returns-in-Some-clause-nearer
returns-in-Some-clause-nearer c =
    let r = c.args.self.now in
    λ _. omega (arith, most_after-least (2 ^ 128) (is_in_team r.directory.now.chart r.user) r.team c.in-Some.team c.in-Some.ensures (search rules))

pub returns-in-None-clause-goes_on : goal.returns-in-None-clause-goes_on
returns-in-None-clause-goes_on c = let r = c.args.self.now in let none = over (query_of r) r.team r.depth c.requires c.in-None.ensures in (none, none)
