use Rattle.std.proofs.Common.{◌≡◌, drop}
use Rattle.dv_schema.specs.First.{first, first_from}
use Rattle.dv_meta.specs.NameTaken.{taken_at_table}
use Rattle.dv_meta.proofs.passes.taken_names.taken_in_tables.Given as goal

abbrev pub invariant-loop-i : goal.invariant-loop-i
invariant-loop-i l = first (taken_at_table l.draft) l.draft.tables ≡ first_from (taken_at_table l.draft) l.i (drop l.i l.draft.tables)
