use Rattle.std.proofs.Common.{sym, ◌∙◌, arith}
use Rattle.dv_meta.proofs.NumberLaws.{place_of-below_items}
use Rattle.dv_meta.proofs.building.numbers.table_number.Goals as goal

pub overflow_cast-result : goal.overflow_cast-result
overflow_cast-result c =
    let within = place_of-below_items (λ item. item.name) c.args.draft.now.tables c.args.name.now c.in-Some.i (sym (c.requires.index.tables c.args.name.now) ∙ sym c.in-Some.ensures) in
    omega (arith, within, c.requires.limits.tables)
