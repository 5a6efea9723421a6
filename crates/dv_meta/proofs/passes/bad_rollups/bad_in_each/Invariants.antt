use Rattle.std.proofs.Common.{◌≡◌, drop}
use Rattle.dv_schema.specs.First.{first, first_from}
use Rattle.dv_meta.specs.Rollups.{bad_in}
use Rattle.dv_meta.proofs.passes.bad_rollups.bad_in_each.Given as goal

abbrev pub invariant-loop-i : goal.invariant-loop-i
invariant-loop-i l = first (bad_in l.draft) l.tables ≡ first_from (bad_in l.draft) l.i (drop l.i l.tables)
