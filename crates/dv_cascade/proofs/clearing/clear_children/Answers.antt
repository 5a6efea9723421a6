use Rattle.std.specs.Prelude.{None, Some}
use Rattle.dv_cascade.proofs.Leading.{next_child}
use Rattle.dv_cascade.proofs.Emptied.{children_begin, children_more, children_end}
use Rattle.dv_cascade.proofs.clearing.clear_children.Goals as goal

pub children-init : goal.children-init
children-init c = children_begin c.args.store.now.present c.args.relationship.now c.args.set.now c.args.parent c.requires.table c.args.cleared.now

pub children-preserved : goal.children-preserved
children-preserved c =
    let w = c.args.store.now.present in
    let r = c.args.relationship.now in
    let next = next_child w r c.args.number r.delete c.args.parent c.requires.link c.requires.table c.children.after (Some c.in-Some.id) c.in-Some.ensures in
    children_more w r c.args.set.now c.args.parent c.requires.table c.children.after c.in-Some.id c.args.cleared.now c.children.cleared c.clear_child.new.cleared c.children.invariant next c.in_ok-clear_child.ensures

pub returns : goal.returns
returns c =
    let w = c.args.store.now.present in
    let r = c.args.relationship.now in
    children_end w r c.args.set.now c.args.parent c.requires.table c.children.after c.args.cleared.now c.children.cleared c.children.invariant
    (next_child w r c.args.number r.delete c.args.parent c.requires.link c.requires.table c.children.after None c.in_default.ensures)
