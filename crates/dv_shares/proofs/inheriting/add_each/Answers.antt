use Rattle.std.proofs.Common.{◌<◌, ◌≤◌, ◌+◌, length, drop, sym, ap, subst, ◌∙◌, arith}
use Rattle.dv_shares.specs.declared.handing.Share.{Share}
use Rattle.dv_shares.specs.Handing.{each_added}
use Rattle.dv_shares.specs.Outcome.{MayRefuse}
use Rattle.dv_shares.proofs.Marks.{extends-on}
use Rattle.dv_shares.proofs.Shares.{each-step, each-end, refused-each}
use Rattle.dv_shares.proofs.inheriting.add_each.Goals as goal

-- what stands for a share past the end
abbrev no_share : Share
no_share = record { principal = record { 0 = 0 }; mask = 0 }

pub returns-in-Err-clause-err : goal.returns-in-Err-clause-err
returns-in-Err-clause-err c =
    let lt : c.loop-share.share-index < length c.args.shares.now = omega (arith, c.loop-share-test.true) in
    subst (λ w. MayRefuse w c.in-Err.fault) c.loop-share.invariant.rest
    (refused-each c.args.row c.args.shares.now c.loop-share.share-index no_share c.loop-share.store.present c.in-Err.fault lt c.in-Err.ensures.err)

pub loop-share-preserved : goal.loop-share-preserved
loop-share-preserved c =
    let lt : c.loop-share.share-index < length c.args.shares.now = omega (arith, c.loop-share-test.true) in
    let inv = c.loop-share.invariant in
    let ok = c.in_default.ensures.ok in
    record {
      rest = ap (each_added c.args.row (drop (c.loop-share.share-index + 1) c.args.shares.now)) ok.present
          ∙ sym (each-step c.args.row c.args.shares.now c.loop-share.share-index no_share c.loop-share.store.present lt)
          ∙ inv.rest;
      extends = extends-on c.args.store.now c.loop-share.store c.change_one.new.store inv.extends ok.extends;
      within = λ few. c.in_default.ensures.within (inv.within few);
    }

pub returns-clause-ok : goal.returns-clause-ok
returns-clause-ok c =
    let inv = c.loop-share.invariant in
    let le : length c.args.shares.now ≤ c.loop-share.share-index = omega (arith, c.loop-share-test.false) in
    record {
      present = sym (each-end c.args.row c.args.shares.now c.loop-share.share-index c.loop-share.store.present le) ∙ inv.rest;
      extends = inv.extends;
    }
