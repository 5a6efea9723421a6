-- Links stay sound where the rows stay, and where the store stays.
use Rattle.std.proofs.Common.{◌≡◌, ◌∙◌}
use Rattle.std.specs.Prelude.{Result, Ok, Err, OnOk}
use Rattle.dv_schema.specs.declared.definition.Definition.{Definition}
use Rattle.dv_store.specs.World.{World}
use Rattle.dv_cascade.specs.Sound.{IsSoundWorld}
use Rattle.dv_cascade.proofs.Sounding.{sound_alike}

-- a world of the shape of a sound one, with its rows
pub stays_sound : (d : Definition) (old new : World) → IsSoundWorld d old → new.shape ≡ old.shape → new.rows ≡ old.rows → IsSoundWorld d new
stays_sound d old new sound shape rows = record {
  definition = sound.definition;
  shape = shape ∙ sound.shape;
  links = sound_alike old new d rows sound.links;
}

module _ {T E : Type 0} where
  -- what follows on an Ok from what is so on one
  pub on_ok : (P Q : Type 0) (result : Result T E) → OnOk result P → (P → Q) → OnOk result Q
  on_ok P Q (Ok value) p f = f p
  on_ok P Q (Err error) p f = tt

  pub stays_sound_on_ok : (d : Definition) (old new : World) → IsSoundWorld d old → (result : Result T E) → OnOk result (new.shape ≡ old.shape) → OnOk result (new.rows ≡ old.rows)
      → OnOk result (IsSoundWorld d new)
  stays_sound_on_ok d old new sound (Ok value) shape rows = stays_sound d old new sound shape rows
  stays_sound_on_ok d old new sound (Err error) shape rows = tt
