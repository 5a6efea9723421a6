use Rattle.dv_cascade.proofs.Emptied.{cleared_are}
use Rattle.dv_cascade.proofs.clearing.links_to_clear.Goals as goal

pub returns : goal.returns
returns c = cleared_are c.args.store.now.present c.args.definition.now c.in_ok-rows.rows c.args.set.now c.new-cleared.result c.clear_all.new.cleared c.in_ok-sorted.field-0.items c.in_ok-rows.ensures c.new-cleared.ensures c.in_ok-clear_all.ensures c.in_ok-sorted.ensures
