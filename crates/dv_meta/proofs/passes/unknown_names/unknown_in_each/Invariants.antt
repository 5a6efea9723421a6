use Rattle.std.proofs.Common.{◌≡◌, drop}
use Rattle.dv_schema.specs.First.{first, first_from}
use Rattle.dv_meta.specs.UnknownName.{unknown_in}
use Rattle.dv_meta.proofs.passes.unknown_names.unknown_in_each.Given as goal

abbrev pub invariant-loop-i : goal.invariant-loop-i
invariant-loop-i l = first (unknown_in l.draft) l.tables ≡ first_from (unknown_in l.draft) l.i (drop l.i l.tables)
