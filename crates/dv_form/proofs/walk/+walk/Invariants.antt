use Rattle.std.proofs.Common.{◌≡◌, ◌+◌, ◌*◌, map, drop}
use Rattle.serde_json.specs.Data.{depth, items_depth}
use Rattle.serde_json.specs.View.{view, items_view}
use Rattle.dv_form.specs.Members.{members_in}
use Rattle.dv_form.specs.Schemas.{form_of, member_of}
use Rattle.dv_form.specs.Walk as walk
use Rattle.dv_form.proofs.walk.+walk.Given as goal

abbrev pub decreases-value_fault : goal.decreases-value_fault
decreases-value_fault g l = 4 * depth (view l.json.now) + 3

abbrev pub decreases-list_fault : goal.decreases-list_fault
decreases-list_fault g l = 4 * depth (view l.json.now) + 2

abbrev pub decreases-items_fault : goal.decreases-items_fault
decreases-items_fault g l = 4 * items_depth (items_view l.items.now) + 4

abbrev pub decreases-object_fault : goal.decreases-object_fault
decreases-object_fault g l = 4 * depth (view l.json.now) + 2

abbrev pub decreases-members_fault : goal.decreases-members_fault
decreases-members_fault g l = 4 * depth (view l.json.now) + 1

abbrev pub decreases-member_fault : goal.decreases-member_fault
decreases-member_fault g l = 4 * depth (view l.json.now)

abbrev pub invariant-items_fault-loop-at : goal.invariant-items_fault-loop-at
invariant-items_fault-loop-at g l = walk.items_fault g.G.Grammar.schemas (items_view (drop l.at l.items)) l.at (form_of l.form)
    ≡ walk.items_fault g.G.Grammar.schemas (items_view l.items) 0 (form_of l.form)

abbrev pub invariant-members_fault-loop-member : goal.invariant-members_fault-loop-member
invariant-members_fault-loop-member g l = walk.members_fault (view l.json) (walk.fault_at g.G.Grammar.schemas (members_in (view l.json))) (map member_of (drop l.member-index l.members))
    ≡ walk.members_fault (view l.json) (walk.fault_at g.G.Grammar.schemas (members_in (view l.json))) (map member_of l.members)
