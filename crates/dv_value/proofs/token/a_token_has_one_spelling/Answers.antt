use Rattle.dv_value.proofs.OneSpelling.{reads}
use Rattle.dv_value.proofs.token.a_token_has_one_spelling.Goals as goal

pub returns : goal.returns
returns c = reads
