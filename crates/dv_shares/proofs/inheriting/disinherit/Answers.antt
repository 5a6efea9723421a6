use Rattle.dv_shares.proofs.Clearing.{clear-begun, clear-more, clear-end}
use Rattle.dv_shares.proofs.Marks.{extends-on, extends-same}
use Rattle.dv_shares.proofs.inheriting.disinherit.Goals as goal

pub principals-init : goal.principals-init
principals-init c = record {
  cleared = clear-begun c.args.store.now.present c.args.row;
  extends = extends-same c.args.store.now;
  within = λ few. few;
}

pub principals-preserved : goal.principals-preserved
principals-preserved c =
    let inv = c.principals.invariant in
    let ok = c.in_default-change_one.ensures.ok in
    record {
      cleared = clear-more c.args.store.now.present c.args.row c.principals.after c.in-Some.principal c.principals.store.present c.change_one.new.store.present c.in-Some.ensures ok.present inv.cleared;
      extends = extends-on c.args.store.now c.principals.store c.change_one.new.store inv.extends ok.extends;
      within = λ few. c.in_default-change_one.ensures.within (inv.within few);
    }

pub returns-clause-grants : goal.returns-clause-grants
returns-clause-grants c = clear-end c.args.store.now.present c.args.row c.principals.after c.principals.store.present c.in_default.ensures c.principals.invariant.cleared
