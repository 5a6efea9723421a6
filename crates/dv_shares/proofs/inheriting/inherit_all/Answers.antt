use Rattle.std.proofs.Common.{◌<◌, ◌≤◌, ◌+◌, length, drop, sym, ap, subst, ◌∙◌, arith}
use Rattle.std.specs.Prelude.{None}
use Rattle.dv_shares.specs.declared.heirs.Heir.{Heir}
use Rattle.dv_shares.specs.Handing.{all_inherit}
use Rattle.dv_shares.specs.Outcome.{MayRefuse}
use Rattle.dv_shares.proofs.Marks.{extends-on}
use Rattle.dv_shares.proofs.Shares.{all-step, all-end, refused-all}
use Rattle.dv_shares.proofs.inheriting.inherit_all.Goals as goal

-- what stands for an heir past the end
abbrev no_heir : Heir
no_heir = record { row = record { table = 0; id = record { 0 = 0 } }; parent = None }

pub returns-in-Err-clause-err : goal.returns-in-Err-clause-err
returns-in-Err-clause-err c =
    let lt : c.loop-heir.heir-index < length c.args.heirs.now = omega (arith, c.loop-heir-test.true) in
    subst (λ w. MayRefuse w c.in-Err.fault) c.loop-heir.invariant.rest
    (refused-all c.args.heirs.now c.loop-heir.heir-index no_heir c.loop-heir.store.present c.in-Err.fault lt c.in-Err.ensures.err)

pub loop-heir-preserved : goal.loop-heir-preserved
loop-heir-preserved c =
    let lt : c.loop-heir.heir-index < length c.args.heirs.now = omega (arith, c.loop-heir-test.true) in
    let inv = c.loop-heir.invariant in
    let ok = c.in_default.ensures.ok in
    record {
      rest = ap (all_inherit (drop (c.loop-heir.heir-index + 1) c.args.heirs.now)) ok.present
          ∙ sym (all-step c.args.heirs.now c.loop-heir.heir-index no_heir c.loop-heir.store.present lt)
          ∙ inv.rest;
      extends = extends-on c.args.store.now c.loop-heir.store c.inherit.new.store inv.extends ok.extends;
      within = λ few. c.in_default.ensures.within (inv.within few);
    }

pub returns-clause-ok : goal.returns-clause-ok
returns-clause-ok c =
    let inv = c.loop-heir.invariant in
    let le : length c.args.heirs.now ≤ c.loop-heir.heir-index = omega (arith, c.loop-heir-test.false) in
    record {
      present = sym (all-end c.args.heirs.now c.loop-heir.heir-index c.loop-heir.store.present le) ∙ inv.rest;
      extends = inv.extends;
    }
