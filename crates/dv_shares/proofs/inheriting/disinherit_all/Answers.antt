use Rattle.std.proofs.Common.{◌<◌, ◌≤◌, ◌+◌, length, take, sym, ap, arith}
use Rattle.std.proofs.lemmas.List.{take_all}
use Rattle.std.proofs.lemmas.List.Folds.{list_any_more}
use Rattle.dv_store.specs.declared.keys.RowKey.{RowKey}
use Rattle.dv_store.specs.Keys.{is_row}
use Rattle.dv_cascade.specs.Chains.{is_among}
use Rattle.dv_shares.proofs.Clearing.{clear-both, clear-none, clear-said}
use Rattle.dv_shares.proofs.Marks.{extends-on, extends-same}
use Rattle.dv_shares.proofs.inheriting.disinherit_all.Goals as goal

-- what stands for a row past the end
abbrev no_row : RowKey
no_row = record { table = 0; id = record { 0 = 0 } }

pub loop-row-init : goal.loop-row-init
loop-row-init c = record {
  cleared = clear-none c.args.store.now.present;
  extends = extends-same c.args.store.now;
  within = λ few. few;
}

pub loop-row-preserved : goal.loop-row-preserved
loop-row-preserved c =
    let lt : c.loop-row.row-index < length c.args.set.now = omega (arith, c.loop-row-test.true) in
    let inv = c.loop-row.invariant in
    let w0 = c.args.store.now.present in
    let done = c.in_default.ensures in
    let before = is_among (take c.loop-row.row-index c.args.set.now) in
    record {
      cleared = clear-said w0 c.disinherit.new.store.present _ (is_among (take (c.loop-row.row-index + 1) c.args.set.now)) (λ row. sym (list_any_more (is_row row) c.args.set.now c.loop-row.row-index no_row lt))
          (clear-both w0 c.loop-row.store.present c.disinherit.new.store.present before _ inv.cleared done.grants);
      extends = extends-on c.args.store.now c.loop-row.store c.disinherit.new.store inv.extends c.disinherit.ensures.extends;
      within = λ few. done.within (inv.within few);
    }

pub returns-clause-grants : goal.returns-clause-grants
returns-clause-grants c =
    let le : length c.args.set.now ≤ c.loop-row.row-index = omega (arith, c.loop-row-test.false) in
    clear-said c.args.store.now.present c.loop-row.store.present (is_among (take c.loop-row.row-index c.args.set.now)) (is_among c.args.set.now) (λ row. ap (λ rows. is_among rows row) (take_all c.loop-row.row-index c.args.set.now le)) c.loop-row.invariant.cleared
