use Rattle.std.proofs.Common.{◌≡◌, ◌+◌, ◌*◌, ◌≤◌, map}
use Rattle.std.specs.Vec.Iter.{into_iter_items}
use Rattle.serde_json.specs.Data.{depth, items_depth, members_depth}
use Rattle.serde_json.specs.View.{view, items_view, members_view}
use Rattle.dv_wire.specs.Queries.{filter_of}
use Rattle.dv_wire.proofs.querying.+filters.Given as goal

abbrev pub decreases-filter_of : goal.decreases-filter_of
decreases-filter_of l = 3 * depth (view l.json) + 1

abbrev pub decreases-filters_in : goal.decreases-filters_in
decreases-filters_in l = 3 * members_depth (members_view l.members.now.entries)

abbrev pub decreases-filters_of : goal.decreases-filters_of
decreases-filters_of l = 3 * items_depth (items_view l.items.items) + 2

abbrev pub invariant-filters_of-loop-item : goal.invariant-filters_of-loop-item
invariant-filters_of-loop-item l = (l.filters ≡ map filter_of (map view l.yielded)) × (items_depth (items_view (into_iter_items l.item-iterator)) ≤ items_depth (items_view l.fn.items.items))
