use Rattle.std.proofs.Common.{◌≡◌}
use Rattle.serde_json.specs.View.{members_view}
use Rattle.dv_form.specs.Walk as walk
use Rattle.dv_form.proofs.parts.raw_values_fault.Given as goal

abbrev pub invariant-loop-name : goal.invariant-loop-name
invariant-loop-name l = walk.raw_values_fault (members_view l.name-iterator) ≡ walk.raw_values_fault (members_view l.members.entries)
