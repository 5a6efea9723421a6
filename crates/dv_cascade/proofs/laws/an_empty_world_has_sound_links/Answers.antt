use Rattle.dv_cascade.proofs.Sounding.{sound_empty}
use Rattle.dv_cascade.proofs.laws.an_empty_world_has_sound_links.Goals as goal

pub returns : goal.returns
returns c = sound_empty
