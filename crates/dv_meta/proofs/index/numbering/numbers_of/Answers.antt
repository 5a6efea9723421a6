use Rattle.std.proofs.Common.{◌∙◌, arith}
use Rattle.dv_meta.proofs.IndexLaws.{Finds-nil, Finds-more_copy, Finds-all}
use Rattle.dv_meta.proofs.index.numbering.numbers_of.Goals as goal

pub loop-i-init : goal.loop-i-init
loop-i-init g c = Finds-nil c.new-numbers.result c.new-numbers.ensures

pub loop-i-preserved : goal.loop-i-preserved
loop-i-preserved g c =
    Finds-more_copy g.T.Named.name_of c.args.items.now c.loop-i.i c.index-items-i.result c.in_ok-copy.field-0 c.loop-i.numbers c.add.new.self (omega arith) c.index-items-i.is (c.in_ok-copy.ensures ∙ c.name.ensures) c.loop-i.invariant c.in_ok-add.ensures

pub returns : goal.returns
returns g c = Finds-all g.T.Named.name_of c.args.items.now c.loop-i.i c.loop-i.numbers (omega arith) c.loop-i.invariant
