use Rattle.std.proofs.Common.{ap, sym, ◌∙◌}
use Rattle.dv_units.specs.Membership.{unit_of}
use Rattle.dv_pipeline.proofs.Owning.{caller_has_unit}
use Rattle.dv_pipeline.proofs.executing.run_caller.Goals as goal

pub returns-in-None-clause-memory : goal.returns-in-None-clause-memory
returns-in-None-clause-memory c =
    let scene = c.args.scene.now in
    absurd (caller_has_unit scene.directory.now scene.user c.requires (ap (λ chart. unit_of chart scene.user) (sym c.units.ensures) ∙ sym c.unit_of.ensures.unit ∙ c.in-None.is))
