use Rattle.std.proofs.Common.{◌≡◌, take, map}
use Rattle.serde_json.specs.View.{view}
use Rattle.dv_print.specs.Printed.{share_data}
use Rattle.dv_print.proofs.printing.shares_json.Given as goal

abbrev pub invariant-loop-share : goal.invariant-loop-share
invariant-loop-share l = map view l.list.items ≡ map share_data (take l.share-index l.shares)
