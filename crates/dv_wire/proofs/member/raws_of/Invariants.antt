use Rattle.std.proofs.Common.{◌≡◌, map}
use Rattle.serde_json.specs.View.{view}
use Rattle.dv_wire.specs.Members.{raw_item}
use Rattle.dv_wire.proofs.member.raws_of.Given as goal

abbrev pub invariant-loop-item : goal.invariant-loop-item
invariant-loop-item l = l.raws ≡ map raw_item (map view l.yielded)
