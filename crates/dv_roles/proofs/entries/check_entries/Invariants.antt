use Rattle.std.proofs.Common.{◌≡◌, drop}
use Rattle.dv_schema.specs.First.{first, first_from}
use Rattle.dv_roles.specs.Entries.{entry_fault}
use Rattle.dv_roles.proofs.entries.check_entries.Given as goal

abbrev pub invariant-loop-entry : goal.invariant-loop-entry
invariant-loop-entry l = first (λ i entry. entry_fault l.definition entry) l.entries ≡ first_from (λ i entry. entry_fault l.definition entry) l.entry-index (drop l.entry-index l.entries)
