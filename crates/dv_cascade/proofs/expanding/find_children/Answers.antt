use Rattle.std.specs.Prelude.{None, Some}
use Rattle.dv_store.specs.Shapes.{place_of}
use Rattle.dv_store.specs.Keys.{row_key}
use Rattle.dv_cascade.proofs.Leading.{named_there, next_child, children_more, children_end}
use Rattle.dv_cascade.proofs.expanding.find_children.Goals as goal

pub find_child-requires : goal.find_child-requires
find_child-requires c =
    let w = c.args.store.now.present in
    let r = c.args.relationship.now in
    let next = next_child w r c.args.number c.args.cascade c.args.parent c.requires.link c.requires.table c.children.after (Some c.in-Some.id) c.in-Some.ensures in
    named_there w (row_key r.child c.in-Some.id) (place_of r.column) c.args.parent.id next.there

pub children-preserved : goal.children-preserved
children-preserved c =
    let w = c.args.store.now.present in
    let r = c.args.relationship.now in
    let next = next_child w r c.args.number c.args.cascade c.args.parent c.requires.link c.requires.table c.children.after (Some c.in-Some.id) c.in-Some.ensures in
    children_more w r c.args.number c.args.cascade c.args.parent c.requires.link c.requires.table c.children.after c.in-Some.id c.args.found.now c.children.found c.find_child.new.found c.children.invariant next c.in_ok-find_child.ensures

pub returns : goal.returns
returns c =
    let w = c.args.store.now.present in
    let r = c.args.relationship.now in
    children_end w r c.args.number c.args.cascade c.args.parent c.requires.link c.requires.table c.children.after c.args.found.now c.children.found c.children.invariant
    (next_child w r c.args.number c.args.cascade c.args.parent c.requires.link c.requires.table c.children.after None c.in_default.ensures)
