use Rattle.std.proofs.Common.{◌≡◌, ◌-◌, ◌+◌, ◌∙◌, sym, length, arith, suc, ℕ}
use Rattle.std.proofs.lemmas.Bool.{eq-eqb, ne_eqb}
use Rattle.dv_units.proofs.TreeLaws.{id-is, line-root, line-more, line-here, line-end}
use Rattle.dv_units.proofs.lines.is_in_line.Goals as goal

pub returns-then-above-at : goal.returns-then-above-at
returns-then-above-at c =
    let es = c.args.units.now.entries in
    let n : ℕ = length es - (c.loop-level.level + 1) in
    let e : length es - c.loop-level.level ≡ suc n = omega arith in
    sym (c.loop-level.invariant ∙ line-here es c.args.above c.loop-level.at (length es - c.loop-level.level) n e (eq-eqb _ _ c.if-above-at.true))

pub returns-then-parent-at : goal.returns-then-parent-at
returns-then-parent-at c =
    let es = c.args.units.now.entries in
    let own = sym c.parent_of-parent.ensures ∙ id-is c.parent_of-parent.result c.loop-level.at c.if-parent-at.true in
    sym (c.loop-level.invariant ∙ line-root es c.args.above c.loop-level.at own (ne_eqb _ _ c.if-above-at.false) (length es - c.loop-level.level))

pub returns : goal.returns
returns c =
    let es = c.args.units.now.entries in
    sym (c.loop-level.invariant ∙ line-end es c.args.above c.loop-level.at (length es - c.loop-level.level) (omega arith))

pub loop-level-preserved : goal.loop-level-preserved
loop-level-preserved c =
    let es = c.args.units.now.entries in
    let n : ℕ = length es - (c.loop-level.level + 1) in
    let e : length es - c.loop-level.level ≡ suc n = omega arith in
    c.loop-level.invariant ∙ line-more es c.args.above c.loop-level.at c.parent_of-parent.result (length es - c.loop-level.level) n e (ne_eqb _ _ c.if-above-at.false) c.parent_of-parent.ensures
