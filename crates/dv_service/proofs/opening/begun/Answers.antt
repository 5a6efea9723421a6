use Rattle.std.proofs.Common.{sym, subst}
use Rattle.dv_cascade.specs.Sound.{IsSoundWorld}
use Rattle.dv_service.proofs.Sounding.{sound_at_first}
use Rattle.dv_service.proofs.opening.begun.Goals as goal

pub new-requires-in-Ok-clause-sound : goal.new-requires-in-Ok-clause-sound
new-requires-in-Ok-clause-sound c = subst (IsSoundWorld c.args.definition) (sym c.in-Ok.ensures.present) (sound_at_first c.args.definition c.requires)
