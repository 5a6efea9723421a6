use Rattle.std.proofs.Common.{sym, subst}
use Rattle.dv_work.specs.History.{EachState}
use Rattle.dv_store.specs.Kept.{IsOrdered}
use Rattle.dv_store.proofs.Written.{on_both, on_ok, seen-amended, ordered-amended}
use Rattle.dv_store.proofs.cells.Cells.amend.Goals as goal

pub invariant_of-self : goal.invariant_of-self
invariant_of-self c =
    let h = c.self.inside.shelf in
    let new = c.put_place.new.shelf in
    on_both c.put_place.result c.put_place.ensures.ok c.put_place.ensures.err
    (ordered-amended c.self.inside.shape h new c.args.key c.args.item c.self.invariant c.requires)
    (λ is. subst (EachState IsOrdered) (sym is) c.self.invariant)

pub returns-clause-ok : goal.returns-clause-ok
returns-clause-ok c = rw (← c.self.view_is) (on_ok c.put_place.result c.put_place.ensures.ok
    (seen-amended c.self.inside.shape c.self.inside.shelf c.put_place.new.shelf c.args.key c.args.item c.self.invariant))
