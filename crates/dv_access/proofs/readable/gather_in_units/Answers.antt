use Rattle.std.proofs.Common.{subst, ◌∙◌}
use Rattle.std.specs.Prelude.{IsTrue, Some}
use Rattle.dv_store.specs.Cursors.{IsNext}
use Rattle.dv_access.specs.Principals.{is_principal}
use Rattle.dv_access.specs.Gathered.{Gathers, IsRowOfOther}
use Rattle.dv_access.proofs.Walks.{more}
use Rattle.dv_access.proofs.readable.gather_in_units.Goals as goal

pub owners-preserved : goal.owners-preserved
owners-preserved g c =
    let d = c.args.directory.now in
    let told = g.C.Cursors.told c.args.cursors.now in (
      more (λ owner. IsTrue (is_principal d.chart owner)) (IsRowOfOther d told c.args.user c.args.table)
          c.owners.after c.in-Some.owner c.args.ids.now.items c.owners.ids.items c.gather_of_other.new.ids.items c.owners.invariant.0
          (subst (λ chart. IsNext (λ owner. IsTrue (is_principal chart owner)) c.owners.after (Some c.in-Some.owner)) c.units.ensures c.in-Some.ensures)
          (subst (λ t. Gathers (IsRowOfOther d t c.args.user c.args.table c.in-Some.owner) c.owners.ids.items c.gather_of_other.new.ids.items) c.owners.invariant.1 c.in_ok-gather_of_other.ensures.gathers),
      c.gather_of_other.ensures.told ∙ c.owners.invariant.1,
    )
