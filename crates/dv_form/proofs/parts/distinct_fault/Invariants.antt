use Rattle.std.proofs.Common.{◌≡◌, List, drop}
use Rattle.serde_json.specs.Data.{Data}
use Rattle.serde_json.specs.View.{items_view}
use Rattle.dv_form.specs.Integers.{AreIn}
use Rattle.dv_form.specs.Walk as walk
use Rattle.dv_form.proofs.parts.distinct_fault.Given as goal

abbrev pub invariant-loop-at : goal.invariant-loop-at
invariant-loop-at l = (earlier : List Data) × AreIn l.before earlier × (walk.new_integers_fault earlier l.at (items_view (drop l.at l.items)) ≡ walk.distinct_fault (items_view l.items))
