use Rattle.std.proofs.Common.{drop}
use Rattle.serde_json.specs.Data.{Members}
use Rattle.serde_json.specs.View.{members_view}
use Rattle.dv_message.specs.Showing.{ShowsColumns}
use Rattle.dv_message.proofs.showing.show_columns.Given as goal

abbrev pub invariant-loop-number : goal.invariant-loop-number
invariant-loop-number l = (after : Members)
    → ShowsColumns l.columns l.id l.row (drop l.number-index l.numbers) (members_view l.members.entries) after
    → ShowsColumns l.columns l.id l.row l.numbers (members_view l.fn.members.entries) after
