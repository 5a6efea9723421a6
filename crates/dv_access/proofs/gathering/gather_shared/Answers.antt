use Rattle.std.proofs.Common.{◌≡◌, sym, subst, ◌∙◌}
use Rattle.std.specs.Prelude.{IsTrue, IsSome}
use Rattle.std.specs.FinMap as map
use Rattle.dv_schema.specs.declared.opening.Action.TheVariants.{Read}
use Rattle.dv_store.specs.Keys.{grant_key}
use Rattle.dv_store.specs.World.{grant_at}
use Rattle.dv_store.specs.Cursors.{IsNextShared}
use Rattle.dv_access.specs.Rights.{grant_has, has_right}
use Rattle.dv_access.proofs.Walks.{said, more}
use Rattle.dv_access.proofs.SharedRows.{joined-has}
use Rattle.dv_access.proofs.gathering.gather_shared.Goals as goal

pub rows-preserved : goal.rows-preserved
rows-preserved g c =
    let told = g.C.Cursors.told c.args.cursors.now in
    let next = subst (λ r. IsNextShared told c.args.table c.args.principal c.rows.after r) c.in-Some.is (subst (λ t. IsNextShared t c.args.table c.args.principal c.rows.after c.shared_after.result) c.rows.invariant.1 c.shared_after.ensures.next) in
    let has = joined-has (map.get told.grants (grant_key c.args.table c.in-Some.id c.args.principal)) c.in-Some.granted Read next.rights in (
      more (λ id. IsSome (map.get told.grants (grant_key c.args.table id c.args.principal)))
          (λ place id. (id ≡ place) × IsTrue (grant_has (grant_at told.grants c.args.table place c.args.principal) Read))
          c.rows.after c.in-Some.id c.args.ids.now.items c.rows.ids.items c.gather_readable.new.ids.items c.rows.invariant.0 next.id
          (said (λ id. (id ≡ c.in-Some.id) × IsTrue (has_right c.in-Some.granted Read)) (λ id. (id ≡ c.in-Some.id) × IsTrue (grant_has (grant_at told.grants c.args.table c.in-Some.id c.args.principal) Read))
          c.rows.ids.items c.gather_readable.new.ids.items (λ id h. (h.0, has ∙ h.1)) (λ id h. (h.0, sym has ∙ h.1)) c.in_ok-gather_readable.ensures),
      c.shared_after.ensures.told ∙ c.rows.invariant.1,
    )
