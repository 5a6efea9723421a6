use Rattle.std.proofs.Common.{◌≡◌}
use Rattle.std.specs.Ordering.{nat_cmp}
use Rattle.std.specs.Cmp.Lexicographic.{slice_cmp}
use Rattle.std.specs.BTreeMap.Range.{entries_between}
use Rattle.std.specs.declared.ops.Bound.TheVariants.{Unbounded}
use Rattle.dv_keeper.specs.Memory.{first_full}
use Rattle.dv_keeper.proofs.places.first_full.Given as goal

-- the first full place of those that are left is that of all
abbrev pub invariant-loop-at : goal.invariant-loop-at
invariant-loop-at l = first_full l.at-iterator ≡ first_full (entries_between (slice_cmp nat_cmp) l.fn.start Unbounded l.places.entries)
