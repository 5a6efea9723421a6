use Rattle.std.proofs.Common.{◌≡◌, ◌≤◌, drop}
use Rattle.std.specs.Prelude.{filter, length}
use Rattle.std.specs.Option.{option_copied}
use Rattle.dv_message.specs.Columns.{first_by_name}
use Rattle.dv_pipeline.specs.Creating.{is_missing}
use Rattle.dv_pipeline.proofs.creation.first_missing.Given as goal

abbrev pub invariant-loop-place : goal.invariant-loop-place
invariant-loop-place l = record {
  within : l.place ≤ length l.columns;
  first : option_copied l.first ≡ first_by_name (filter (is_missing l.fn.values) (drop l.place l.columns));
}

abbrev pub decreases-loop-place : goal.decreases-loop-place
decreases-loop-place l = l.place
