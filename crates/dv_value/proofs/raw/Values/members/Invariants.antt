use Rattle.std.proofs.Common.{◌≡◌, drop}
use Rattle.serde_json.specs.Data.{no_members}
use Rattle.serde_json.specs.View.{members_view}
use Rattle.dv_value.specs.Printed.{with_values}
use Rattle.dv_value.proofs.raw.Values.members.Given as goal

abbrev pub invariant-loop-name : goal.invariant-loop-name
invariant-loop-name l = with_values l.name-items no_members ≡ with_values (drop l.name-index l.name-items) (members_view l.members.entries)
