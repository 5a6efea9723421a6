use Rattle.std.proofs.Common.{◌≡◌, ◌≤◌, drop}
use Rattle.std.specs.Prelude.{length}
use Rattle.std.specs.Option.{option_copied}
use Rattle.dv_message.specs.Columns.{first_by_name}
use Rattle.dv_write.specs.Updating.{missing_from}
use Rattle.dv_write.proofs.updating.first_missing.Given as goal

abbrev pub invariant-loop-place : goal.invariant-loop-place
invariant-loop-place l = record {
  within : l.place ≤ length l.columns;
  first : option_copied l.first ≡ first_by_name (missing_from l.fn.id l.fn.row l.place (drop l.place l.columns));
}

abbrev pub decreases-loop-place : goal.decreases-loop-place
decreases-loop-place l = l.place
