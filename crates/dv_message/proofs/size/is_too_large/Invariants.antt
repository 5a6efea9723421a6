use Rattle.std.proofs.Common.{◌≡◌, ◌+◌, ◌≤◌, drop}
use Rattle.dv_message.specs.Sizes.{most_bytes, sizes_of}
use Rattle.dv_message.proofs.size.is_too_large.Given as goal

abbrev pub invariant-loop-value : goal.invariant-loop-value
invariant-loop-value l = record {
  total : l.total + sizes_of (drop l.value-index l.values) ≡ sizes_of l.values;
  few : l.total ≤ most_bytes;
}
