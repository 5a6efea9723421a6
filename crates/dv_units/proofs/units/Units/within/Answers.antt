use Rattle.std.proofs.Common.{◌≡◌, subst, rules}
use Rattle.dv_units.specs.Rules.{IsChart}
use Rattle.dv_units.specs.Tree.{is_within}
use Rattle.dv_units.proofs.WithinLaws.{within-leads}
use Rattle.dv_units.proofs.units.Units.within.Goals as goal

pub returns-then-is_unit-clause-leads : goal.returns-then-is_unit-clause-leads
unfolding is_within
returns-then-is_unit-clause-leads c =
    let keeps : IsChart c.args.self.now = subst (λ chart. IsChart chart) c.self.view_is c.self.invariant.rules in
    let is : c.is_in_line.result ≡ is_within c.args.self.now c.args.unit c.args.above = search rules in
    within-leads c.args.self.now keeps c.args.unit c.args.above c.is_in_line.result is
