use Rattle.std.proofs.Common.{sym, ◌∙◌, arith}
use Rattle.dv_meta.proofs.NumberLaws.{lookup_of-below}
use Rattle.dv_meta.proofs.building.numbers.lookup_number.Goals as goal

pub overflow_cast-result : goal.overflow_cast-result
overflow_cast-result c =
    let within = lookup_of-below c.args.draft.now.relationships c.args.table.now c.args.name.now c.in-Some.k (sym (c.requires.index.lookups c.args.table.now c.args.name.now) ∙ sym c.in-Some.ensures) in
    omega (arith, within, c.requires.limits.relationships)
