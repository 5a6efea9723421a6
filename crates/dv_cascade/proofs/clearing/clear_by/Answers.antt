use Rattle.std.proofs.Common.{sym, ◌∙◌}
use Rattle.std.proofs.lemmas.Bool.{true≢false}
use Rattle.dv_cascade.specs.Removal.{EmptiesBy}
use Rattle.dv_cascade.proofs.Emptied.{nothing, empties}
use Rattle.dv_cascade.proofs.clearing.clear_by.Goals as goal

pub returns-then-not-empties_lookups : goal.returns-then-not-empties_lookups
returns-then-not-empties_lookups c = nothing (EmptiesBy c.args.store.now.present c.args.set.now c.args.relationship.now) c.args.cleared.now (λ key h. true≢false (sym h.empties ∙ sym c.if-not-empties_lookups.ensures))

pub returns : goal.returns
returns c = empties c.args.store.now.present c.args.set.now c.args.relationship.now c.args.cleared.now c.clear_into.new.cleared (sym c.if-not-empties_lookups.ensures) c.in_ok-clear_into.ensures
