use Rattle.std.proofs.Common.{ap, sym, subst, ◌∙◌, IsSome}
use Rattle.std.specs.FinMap as map
use Rattle.dv_store.specs.Kept.{with_grants_gone}
use Rattle.dv_store.proofs.Removes.{gone-grant_set, gone-none, fewer-grant_set, past-grant_set}
use Rattle.dv_store.proofs.removing.drop_grants.Goals as goal

pub loop-principal-smaller : goal.loop-principal-smaller
loop-principal-smaller c =
    let w = c.loop-principal.cells.present.world in
    rw c.in_ok-drop_grant.ensures.ok.world (fewer-grant_set w (record { row = c.args.row; principal = c.in-Some.principal }) c.in-Some.ensures.there)

pub loop-principal-preserved : goal.loop-principal-preserved
loop-principal-preserved c =
    let w = c.loop-principal.cells.present.world in
    let ok = c.in_ok-drop_grant.ensures.ok in
    record {
      well = ok.well;
      earlier = ok.earlier ∙ c.loop-principal.invariant.earlier;
      rest = ap (λ v. with_grants_gone v c.args.row) ok.world ∙ gone-grant_set w c.args.row c.in-Some.principal ∙ c.loop-principal.invariant.rest;
      past = λ q there. past-grant_set w c.args.row c.loop-principal.after c.in-Some.principal c.loop-principal.invariant.past c.in-Some.ensures q
          (subst (λ v. IsSome (map.get v.grants (record { row = c.args.row; principal = q }))) ok.world there);
    }

pub returns-clause-ok : goal.returns-clause-ok
returns-clause-ok c =
    let w = c.loop-principal.cells.present.world in
    record {
      world = sym (gone-none w c.args.row (λ q there. c.in_default.ensures q there (c.loop-principal.invariant.past q there))) ∙ c.loop-principal.invariant.rest;
      well = c.loop-principal.invariant.well;
      earlier = c.loop-principal.invariant.earlier;
    }
