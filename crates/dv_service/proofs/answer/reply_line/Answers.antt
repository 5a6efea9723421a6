use Rattle.std.proofs.Common.{◌∙◌, ap, ◌++◌, ◌∷◌, []}
use Rattle.std.proofs.lemmas.Result.{IfOk-weaker}
use Rattle.dv_service.specs.Answers.{answer_line, answer_data}
use Rattle.dv_service.proofs.answer.reply_line.Goals as goal

pub returns : goal.returns
unfolding answer_line answer_data
returns c = IfOk-weaker c.ended.result _ _ (λ line e. e ∙ ap (λ t. t ++ 10 ∷ []) c.in_ok-print_reply.ensures.text) c.ended.ensures
