use Rattle.std.proofs.Common.{◌<◌, ◌≤◌, ◌+◌, length, drop, sym, ap, subst, ◌∙◌, arith}
use Rattle.dv_store.specs.declared.keys.RowKey.{RowKey}
use Rattle.dv_shares.specs.Outcome.{MayRefuse}
use Rattle.dv_shares.specs.Steps.{others_changed}
use Rattle.dv_shares.proofs.Limits.{others-step, others-end, refused-others}
use Rattle.dv_shares.proofs.Marks.{extends-on}
use Rattle.dv_shares.proofs.changing.change_others.Goals as goal

-- what stands for a row past the end
abbrev no_row : RowKey
no_row = record { table = 0; id = record { 0 = 0 } }

pub returns-in-Err-clause-err : goal.returns-in-Err-clause-err
returns-in-Err-clause-err c = λ adding.
    let lt : c.loop-row.row-index < length c.args.set.now = omega (arith, c.loop-row-test.true) in
    subst (λ w. MayRefuse w c.in-Err.fault) c.loop-row.invariant.rest
    (refused-others c.args.target c.args.principal c.args.change c.args.set.now c.loop-row.row-index no_row c.loop-row.store.present c.in-Err.fault adding lt c.in-Err.ensures.err)

pub loop-row-preserved : goal.loop-row-preserved
loop-row-preserved c =
    let lt : c.loop-row.row-index < length c.args.set.now = omega (arith, c.loop-row-test.true) in
    let inv = c.loop-row.invariant in
    let ok = c.in_default.ensures.ok in
    record {
      rest = ap (others_changed c.args.target c.args.principal c.args.change (drop (c.loop-row.row-index + 1) c.args.set.now)) ok.present
          ∙ sym (others-step c.args.target c.args.principal c.args.change c.args.set.now c.loop-row.row-index no_row c.loop-row.store.present lt)
          ∙ inv.rest;
      extends = extends-on c.args.store.now c.loop-row.store c.change_other.new.store inv.extends ok.extends;
      within = λ few. c.in_default.ensures.within (inv.within few);
    }

pub returns-clause-ok : goal.returns-clause-ok
returns-clause-ok c =
    let inv = c.loop-row.invariant in
    let le : length c.args.set.now ≤ c.loop-row.row-index = omega (arith, c.loop-row-test.false) in
    record {
      present = sym (others-end c.args.target c.args.principal c.args.change c.args.set.now c.loop-row.row-index c.loop-row.store.present le) ∙ inv.rest;
      extends = inv.extends;
    }
