use Rattle.std.proofs.Common.{◌≡◌, ◌+◌, ◌*◌, ◌≤◌, map}
use Rattle.std.specs.Vec.Iter.{into_iter_items}
use Rattle.serde_json.specs.Data.{depth, items_depth, members_depth}
use Rattle.serde_json.specs.View.{view, items_view, members_view}
use Rattle.dv_wire.specs.Queries.{link_of}
use Rattle.dv_wire.proofs.querying.+links.Given as goal

abbrev pub decreases-link_of : goal.decreases-link_of
decreases-link_of l = 3 * depth (view l.json) + 1

abbrev pub decreases-links_under : goal.decreases-links_under
decreases-links_under l = 3 * members_depth (members_view l.members.now.entries)

abbrev pub decreases-links_of : goal.decreases-links_of
decreases-links_of l = 3 * items_depth (items_view l.items.items) + 2

abbrev pub invariant-links_of-loop-item : goal.invariant-links_of-loop-item
invariant-links_of-loop-item l = (l.links ≡ map link_of (map view l.yielded)) × (items_depth (items_view (into_iter_items l.item-iterator)) ≤ items_depth (items_view l.fn.items.items))
