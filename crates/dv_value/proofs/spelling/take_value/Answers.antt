use Rattle.std.proofs.Common.{◌∙◌, sym}
use Rattle.dv_value.proofs.Spellings.{seam, taken_again}
use Rattle.dv_value.proofs.spelling.take_value.Goals as goal

pub returns-in-Some-clause-again : goal.returns-in-Some-clause-again
returns-in-Some-clause-again c = λ value rest v h e.
    taken_again c.take_body.result _ value _ c.take_body.ensures.taken c.take_body.ensures.refused (seam _ value rest v h (sym c.in-Some.ensures.cases.0 ∙ e))
