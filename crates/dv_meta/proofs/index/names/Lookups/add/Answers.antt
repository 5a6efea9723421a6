use Rattle.std.proofs.Common.{ap, ◌∙◌, Some, None, cond}
use Rattle.std.specs.Option.{option_or}
use Rattle.dv_schema.specs.Names.{same_name}
use Rattle.dv_meta.proofs.NumbersLaws.{lookup_in-added}
use Rattle.dv_meta.proofs.index.names.Lookups.add.Goals as goal

pub returns : goal.returns
returns c = λ t q. lookup_in-added t q c.args.table c.args.name c.args.number c.add.new.self c.args.self.now c.take-numbers.new.self (record { map = c.insert.new.self })
    (λ p. c.in_ok-add.ensures p ∙ ap (λ o. option_or o (cond (same_name p c.args.name) (Some c.args.number) None)) (c.take-numbers.ensures.taken p))
    c.take-numbers.ensures.others c.in_ok-insert.ensures.updates.0
