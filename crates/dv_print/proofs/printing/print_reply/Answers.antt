use Rattle.std.proofs.Common.{◌∙◌, ap}
use Rattle.serde_json.specs.Written.{has_float, compact_text}
use Rattle.dv_print.proofs.Floats.{reply-float}
use Rattle.dv_print.proofs.printing.print_reply.Goals as goal

pub returns-clause-text : goal.returns-clause-text
returns-clause-text c = c.in_ok-to_vec.ensures.text (ap has_float c.in_ok-reply_json.ensures ∙ reply-float c.args.reply.now) ∙ ap compact_text c.in_ok-reply_json.ensures
