use Rattle.std.proofs.Common.{◌≡◌, take, map}
use Rattle.serde_json.specs.View.{view}
use Rattle.dv_print.specs.Printed.{reply_data}
use Rattle.dv_print.proofs.printing.+reply.Given as goal

abbrev pub invariant-replies_json-loop-reply : goal.invariant-replies_json-loop-reply
invariant-replies_json-loop-reply l = map view l.list.items ≡ map reply_data (take l.reply-index l.replies)
