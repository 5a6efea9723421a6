use Rattle.std.proofs.Common.{◌≡◌, map, drop}
use Rattle.serde_json.specs.View.{items_view}
use Rattle.dv_form.specs.Schemas.{spelling_of}
use Rattle.dv_form.specs.Walk as walk
use Rattle.dv_form.proofs.parts.tuple_fault.Given as goal

abbrev pub invariant-loop-at : goal.invariant-loop-at
invariant-loop-at l = walk.spelled_items_fault (map spelling_of (drop l.at l.spellings)) l.at (items_view (drop l.at l.items))
    ≡ walk.spelled_items_fault (map spelling_of l.spellings) 0 (items_view l.items)
