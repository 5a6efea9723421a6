use Rattle.std.proofs.Common.{sym, ◌∙◌}
use Rattle.dv_meta.proofs.FaultlessLaws.{resolved_faultless, sound_faultless}
use Rattle.dv_meta.proofs.resolving.resolve.Goals as goal

pub returns-in_ok-build-in-None-clause-sound : goal.returns-in_ok-build-in-None-clause-sound
returns-in_ok-build-in-None-clause-sound c =
    sound_faultless c.args.draft c.in_ok-build-in-None.field-0 c.args.steps c.requires (sym c.in_ok-fault.ensures ∙ c.in-None.is) c.in_ok-build-in-None.ensures

pub returns-in_ok-build-in-None-clause-resolved : goal.returns-in_ok-build-in-None-clause-resolved
returns-in_ok-build-in-None-clause-resolved c = resolved_faultless c.args.draft c.args.steps (sym c.in_ok-fault.ensures ∙ c.in-None.is)
