use Rattle.std.proofs.Common.{arith}
use Rattle.dv_meta.proofs.IndexLaws.{FindsLookups-nil, FindsLookups-more_copy, FindsLookups-all}
use Rattle.dv_meta.proofs.index.lookup_numbers.Goals as goal

pub loop-i-init : goal.loop-i-init
loop-i-init c = FindsLookups-nil c.new-lookups.result c.new-lookups.ensures

pub loop-i-preserved : goal.loop-i-preserved
loop-i-preserved c =
    FindsLookups-more_copy c.args.relationships.now c.loop-i.i c.index-relationships-i.result c.in_ok-child.child c.in_ok-column.column c.loop-i.lookups c.add.new.self (omega arith) c.index-relationships-i.is c.in_ok-child.ensures c.in_ok-column.ensures c.loop-i.invariant c.in_ok-add.ensures

pub returns : goal.returns
returns c = FindsLookups-all c.args.relationships.now c.loop-i.i c.loop-i.lookups (omega arith) c.loop-i.invariant
