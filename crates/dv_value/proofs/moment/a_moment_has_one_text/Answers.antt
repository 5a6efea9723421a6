use Rattle.dv_value.proofs.OneText.{one_text, one_moment, reads}
use Rattle.dv_value.proofs.moment.a_moment_has_one_text.Goals as goal

pub returns-clause-one_text : goal.returns-clause-one_text
returns-clause-one_text c = one_text

pub returns-clause-one_moment : goal.returns-clause-one_moment
returns-clause-one_moment c = one_moment

pub returns-clause-reads : goal.returns-clause-reads
returns-clause-reads c = reads
