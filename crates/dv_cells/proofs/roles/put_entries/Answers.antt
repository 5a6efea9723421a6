use Rattle.std.proofs.Common.{◌++◌, ap, sym, ◌∙◌}
use Rattle.dv_cells.specs.Bytes.{entries_bytes}
use Rattle.dv_cells.proofs.Listed.{entries_bytes-first, entries_bytes-none}
use Rattle.dv_cells.proofs.roles.put_entries.Goals as goal

pub loop-first-preserved : goal.loop-first-preserved
loop-first-preserved c =
    ap (λ out. out ++ entries_bytes c.in-Some.after.now) c.in_ok-put_entry.ensures
    ∙ entries_bytes-first c.loop-first.rest.now c.in-Some.first.now c.in-Some.after.now c.loop-first.out.items c.in-Some.ensures.cases.0 ∙ c.loop-first.invariant

pub returns : goal.returns
returns c = sym (entries_bytes-none c.loop-first.rest.now c.loop-first.out.items c.in_default.ensures.cases) ∙ c.loop-first.invariant
