-- The world that an organisation begins with is sound.
use Rattle.std.proofs.Common.{refl}
use Rattle.dv_schema.specs.declared.definition.Definition.{Definition}
use Rattle.dv_schema.specs.Sound.{IsSound}
use Rattle.dv_store.specs.World.{empty}
use Rattle.dv_cascade.specs.Sound.{IsSoundWorld}
use Rattle.dv_cascade.proofs.Sounding.{sound_empty}

pub sound_at_first : (d : Definition) → IsSound d → IsSoundWorld d (empty d)
sound_at_first d sound = record { definition = sound; shape = refl; links = sound_empty d }
