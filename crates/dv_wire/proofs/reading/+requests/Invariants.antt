use Rattle.std.proofs.Common.{◌≡◌, ◌+◌, ◌*◌, ◌≤◌, map}
use Rattle.std.specs.Vec.Iter.{into_iter_items}
use Rattle.serde_json.specs.Data.{depth, items_depth, members_depth}
use Rattle.serde_json.specs.View.{view, items_view, members_view}
use Rattle.dv_wire.specs.Requests.{request_of}
use Rattle.dv_wire.proofs.reading.+requests.Given as goal

abbrev pub decreases-request_of : goal.decreases-request_of
decreases-request_of l = 5 * depth (view l.json) + 3

abbrev pub decreases-request_for : goal.decreases-request_for
decreases-request_for l = 5 * depth (view l.json) + 2

abbrev pub decreases-multiple : goal.decreases-multiple
decreases-multiple l = 5 * depth (view l.json) + 1

abbrev pub decreases-transaction : goal.decreases-transaction
decreases-transaction l = 5 * depth (view l.json) + 1

abbrev pub decreases-requests_in : goal.decreases-requests_in
decreases-requests_in l = 5 * members_depth (members_view l.members.now.entries)

abbrev pub decreases-requests_of : goal.decreases-requests_of
decreases-requests_of l = 5 * items_depth (items_view l.items.items) + 4

abbrev pub invariant-requests_of-loop-item : goal.invariant-requests_of-loop-item
invariant-requests_of-loop-item l = (l.requests ≡ map request_of (map view l.yielded)) × (items_depth (items_view (into_iter_items l.item-iterator)) ≤ items_depth (items_view l.fn.items.items))
