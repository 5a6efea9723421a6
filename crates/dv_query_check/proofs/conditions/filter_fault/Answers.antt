use Rattle.std.proofs.Common.{map, refl, sym, ◌∙◌, arith}
use Rattle.dv_schema.proofs.FirstLaws.{first_from-more, first_from-found, first_from-end}
use Rattle.dv_query_check.specs.ConditionFaults.{fault_of_condition, filter_fault}
use Rattle.dv_query_check.specs.Placed.{link_at, filter_at}
use Rattle.dv_query_check.proofs.FaultLaws.{condition_wrong, condition_fine}
use Rattle.dv_query_check.proofs.conditions.filter_fault.Goals as goal

pub loop-i-init : goal.loop-i-init
unfolding filter_fault filter_at
loop-i-init c = refl

pub returns-in-Some : goal.returns-in-Some
returns-in-Some c =
    let links = map link_at c.args.links.now in
    let f = c.args.filter.now in
    sym (c.loop-i.invariant ∙ first_from-found (fault_of_condition links (filter_at f)) f.conditions.now c.loop-i.i c.condition-item.result c.in_ok-told.field-0 (omega arith) c.condition-item.is
    (condition_wrong links f c.loop-i.i c.condition-item.result c.condition_fault_in.result c.in-Some.fault c.in_ok-told.field-0 c.condition_fault_in.ensures c.in-Some.is c.in_ok-told.ensures))

pub loop-i-preserved : goal.loop-i-preserved
loop-i-preserved c =
    let links = map link_at c.args.links.now in
    let f = c.args.filter.now in
    c.loop-i.invariant ∙ first_from-more (fault_of_condition links (filter_at f)) f.conditions.now c.loop-i.i c.condition-item.result (omega arith) c.condition-item.is
    (condition_fine links f c.loop-i.i c.condition-item.result c.condition_fault_in.result c.condition_fault_in.ensures c.in_default.is)

pub returns : goal.returns
returns c =
    let f = c.args.filter.now in
    sym (c.loop-i.invariant ∙ first_from-end (fault_of_condition (map link_at c.args.links.now) (filter_at f)) f.conditions.now c.loop-i.i (omega arith))
