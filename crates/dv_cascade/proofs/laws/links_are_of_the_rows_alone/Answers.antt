use Rattle.dv_cascade.proofs.Sounding.{sound_alike}
use Rattle.dv_cascade.proofs.laws.links_are_of_the_rows_alone.Goals as goal

pub returns : goal.returns
returns c = sound_alike
