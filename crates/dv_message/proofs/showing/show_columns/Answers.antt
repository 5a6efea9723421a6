use Rattle.std.proofs.Common.{◌<◌, arith, length, get_or, subst, sym}
use Rattle.serde_json.specs.View.{members_view}
use Rattle.dv_message.specs.Showing.{ShowsColumn, ShowsColumns}
use Rattle.dv_message.proofs.Walking.{drop_at}
use Rattle.dv_message.proofs.showing.show_columns.Goals as goal

pub loop-number-preserved : goal.loop-number-preserved
unfolding ShowsColumns
loop-number-preserved c = λ after rest.
    let numbers = c.args.numbers.now in
    let i = c.loop-number.number-index in
    let lt : i < length numbers = omega (arith, c.loop-number-test.true) in
    let next = members_view c.show_column.new.members.entries in
    c.loop-number.invariant after (subst (λ ns. ShowsColumns c.args.columns.now c.args.id c.args.row.now ns (members_view c.loop-number.members.entries) after) (sym (drop_at numbers i 0 lt))
    (next, subst (λ column. ShowsColumn c.args.id c.args.row.now (get_or numbers i 0) column (members_view c.loop-number.members.entries) next) c.at.ensures c.in_ok-show_column.ensures, rest))
