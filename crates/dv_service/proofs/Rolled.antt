-- The data of a reply that tells a refusal.
use Rattle.std.proofs.Common.{◌≡◌, None}
use denote.Hole.Carrier.{roll}
use Rattle.serde_json.specs.Data.{Data}
use Rattle.dv_print.specs.Printed.{reply_data, reply_step, refused_data}
use Rattle.dv_refusal.specs.declared.refusal.Refusal.{Refusal}
use Rattle.dv_request.specs.declared.reply.Reply.TheOpen.{Reply-F}
use Rattle.dv_request.specs.declared.reply.Reply.TheFolds.{fold-roll-Reply}
use Rattle.dv_request.specs.declared.reply.Reply.TheViews.{roll-Reply}
use Rattle.dv_service.specs.Answers.{refused}

pub reply_data-refused : (refusal : Refusal) → reply_data (refused refusal) ≡ refused_data refusal None
unfolding reply_data refused_data roll-Reply roll
reply_data-refused refusal = fold-roll-Reply Data reply_step (Reply-F.Refused refusal None)
