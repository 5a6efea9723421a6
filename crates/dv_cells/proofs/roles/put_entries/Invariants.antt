use Rattle.std.proofs.Common.{◌≡◌, ◌++◌, length}
use Rattle.dv_cells.specs.Bytes.{entries_bytes}
use Rattle.dv_cells.proofs.roles.put_entries.Given as goal

-- what is written, with the entries that are left, is what was there with all entries
abbrev pub invariant-loop-first : goal.invariant-loop-first
invariant-loop-first l = l.out.items ++ entries_bytes l.rest ≡ l.fn.out.items ++ entries_bytes l.entries

abbrev pub decreases-loop-first : goal.decreases-loop-first
decreases-loop-first l = length l.rest
