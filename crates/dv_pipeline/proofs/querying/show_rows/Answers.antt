use Rattle.std.proofs.Common.{[], subst, sym, append-nil}
use Rattle.dv_pipeline.specs.Querying.{querying_in, ShowsRows}
use Rattle.dv_message.proofs.Walking.{drop_past}
use Rattle.dv_pipeline.proofs.querying.show_rows.Goals as goal

pub returns : goal.returns
unfolding ShowsRows
returns c =
    let Shown = ShowsRows (querying_in c.args.store.now.present c.args.asked.now) in
    subst (Shown c.args.ids.now) (append-nil c.loop-id.rows)
    (c.loop-id.invariant [] (subst (λ rest. Shown rest []) (sym (drop_past c.args.ids.now c.loop-id.id-index c.loop-id-test.false)) tt))
