use Rattle.std.proofs.Common.{sym, ◌∙◌, arith}
use Rattle.dv_meta.proofs.NumberLaws.{column-below}
use Rattle.dv_meta.proofs.index.lookup.Found.number.Goals as goal

pub overflow_cast-result : goal.overflow_cast-result
overflow_cast-result c =
    let within = column-below c.args.self.now.table.now c.args.name.now c.in-Some.k c.requires.few (sym (c.requires.all c.args.name.now) ∙ sym c.in-Some.ensures) in
    omega (arith, within)
