use Rattle.std.proofs.Common.{refl, sym, ◌+◌}
use Rattle.dv_cascade.specs.Cleared.{Names}
use Rattle.dv_cascade.proofs.Blocked.{falls}
use Rattle.dv_cascade.proofs.Emptied.{below_begin, below_more, parents_end}
use Rattle.dv_cascade.proofs.clearing.clear_into.Goals as goal

pub parents-init : goal.parents-init
parents-init c = below_begin c.args.set.now (Names c.args.store.now.present c.args.relationship.now c.args.set.now) c.args.cleared.now

pub parents-smaller : goal.parents-smaller
parents-smaller c = falls c.args.set.now c.parents.next c.in-Some.parent (sym c.in-Some.ensures.value)

pub parents-preserved : goal.parents-preserved
parents-preserved c = below_more c.args.set.now (Names c.args.store.now.present c.args.relationship.now c.args.set.now) c.parents.next (c.parents.next + 1) c.in-Some.parent c.args.cleared.now c.parents.cleared c.clear_under.new.cleared
    (sym c.in-Some.ensures.value) refl c.parents.invariant c.in_ok-clear_under.ensures

pub returns : goal.returns
returns c = parents_end c.args.store.now.present c.args.relationship.now c.args.set.now c.parents.next c.args.cleared.now c.parents.cleared (sym c.in_default.ensures.value) c.parents.invariant
