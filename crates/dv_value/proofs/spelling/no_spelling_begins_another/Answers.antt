use Rattle.dv_value.proofs.Spellings.{no_prefix}
use Rattle.dv_value.proofs.spelling.no_spelling_begins_another.Goals as goal

pub returns : goal.returns
returns c = no_prefix
