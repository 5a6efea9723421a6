use Rattle.std.proofs.Common.{◌≡◌, ◌++◌}
use Rattle.std.specs.Option.{option_map}
use Rattle.serde_json.specs.View.{members_view}
use Rattle.dv_value.specs.Raws.{values_of}
use Rattle.dv_value.proofs.raw.Values.from_json.Given as goal

abbrev pub invariant-loop-name : goal.invariant-loop-name
invariant-loop-name l = values_of (members_view l.fn.members.entries) ≡ option_map (λ rest. l.values ++ rest) (values_of (members_view l.name-iterator))
