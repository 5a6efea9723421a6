use Rattle.std.proofs.Common.{◌≡◌, ◌+◌, drop}
use Rattle.std.specs.List.{prefix_len}
use Rattle.dv_store.specs.Keys.{is_row}
use Rattle.dv_write.proofs.losing.count_of.Given as goal

abbrev pub invariant-loop-place : goal.invariant-loop-place
invariant-loop-place l = l.place + prefix_len (λ lookup. is_row l.fn.row lookup.row) (drop l.place l.lookups) ≡ prefix_len (λ lookup. is_row l.fn.row lookup.row) l.lookups
