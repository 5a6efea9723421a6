use Rattle.std.proofs.Common.{ap, ◌∙◌}
use Rattle.dv_units.specs.Chart.{is_unit}
use Rattle.dv_roles.proofs.UnitLaws.{is_unit-within}
use Rattle.dv_roles.proofs.directory.Directory.is_unit.Goals as goal

pub returns : goal.returns
returns c = is_unit-within c.self.inside.units c.args.id c.within.result c.within.ensures.leads ∙ ap (λ d. is_unit d.chart c.args.id) c.self.view_is
