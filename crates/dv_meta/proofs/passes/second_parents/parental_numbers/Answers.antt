use Rattle.std.proofs.Common.{sym, ap, ◌∙◌, arith, Some, None, cond}
use Rattle.std.specs.Prelude.{◌&&◌}
use Rattle.std.specs.Option.{option_or}
use Rattle.std.proofs.lemmas.List.{take_all}
use Rattle.dv_schema.specs.First.{first_from}
use Rattle.dv_schema.specs.Names.{same_name}
use Rattle.dv_meta.specs.Relations.{parental_of, is_parental}
use Rattle.dv_schema.proofs.FirstLaws.{first_from-take-more}
use Rattle.dv_meta.proofs.passes.second_parents.parental_numbers.Goals as goal

pub loop-k-init : goal.loop-k-init
unfolding parental_of first_from
loop-k-init c = λ child. c.new-numbers.ensures child

pub loop-k-preserved : goal.loop-k-preserved
unfolding parental_of
loop-k-preserved c = λ child.
    let r = c.index-relationships-k.result in
    let here = cond (is_parental r && same_name child r.child) (Some c.loop-k.k) None in
    c.in_ok-add_parental.ensures child ∙ ap (λ o. option_or o here) (c.loop-k.invariant child)
    ∙ sym (first_from-take-more (λ k x. cond (is_parental x && same_name child x.child) (Some k) None) c.args.relationships.now c.loop-k.k r (omega arith) c.index-relationships-k.is)

pub returns : goal.returns
returns c = λ child. c.loop-k.invariant child ∙ ap (λ rs. parental_of rs child) (take_all c.loop-k.k c.args.relationships.now (omega arith))
