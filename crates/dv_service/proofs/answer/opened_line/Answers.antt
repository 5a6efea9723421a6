use Rattle.std.proofs.Common.{◌∙◌, ap, ◌++◌, ◌∷◌, []}
use Rattle.std.proofs.lemmas.Result.{IfOk-weaker}
use Rattle.serde_json.specs.Written.{has_float, compact_text}
use Rattle.dv_service.specs.Answers.{answer_line, answer_data}
use Rattle.dv_service.proofs.answer.opened_line.Goals as goal

pub returns : goal.returns
unfolding answer_line answer_data
returns c = IfOk-weaker c.ended.result _ _ (λ line e. e ∙ ap (λ t. t ++ 10 ∷ [])
    (c.in_ok-to_vec.ensures.text (ap has_float c.in_ok-json.ensures) ∙ ap compact_text c.in_ok-json.ensures)) c.ended.ensures
