use Rattle.std.proofs.Common.{refl, ◌≡◌, ◌∙◌, subst}
use Rattle.std.specs.Prelude.{Option, None, Some}
use Rattle.std.specs.Option.{option_map}
use Rattle.dv_value.specs.declared.id.Id.{Id}
use Rattle.dv_units.specs.Cursors.{next_entry}
use Rattle.dv_store.specs.Cursors.{IsNext}
use Rattle.dv_access.proofs.LeastIds.{Has, told_is}
use Rattle.dv_access.proofs.principals.unit_after.Goals as goal

same : (o : Option (Id × Id)) → o ≡ option_map (λ e. e) o
same None = refl
same (Some e) = refl

pub returns-in-Some : goal.returns-in-Some
returns-in-Some c =
    let next = c.unit_after.ensures in
    subst (λ r. IsNext (Has c.args.units.now.units) c.args.after (option_map (λ x. x.0) r)) c.in-Some.is (told_is c.args.after c.args.units.now.units (λ e. e) (λ x. x.0) (λ e. refl) next.ascends c.unit_after.result (next.next ∙ same (next_entry c.args.after c.args.units.now.units)))

pub returns-in-None : goal.returns-in-None
returns-in-None c =
    let next = c.unit_after.ensures in
    subst (λ r. IsNext (Has c.args.units.now.units) c.args.after (option_map (λ x. x.0) r)) c.in-None.is (told_is c.args.after c.args.units.now.units (λ e. e) (λ x. x.0) (λ e. refl) next.ascends c.unit_after.result (next.next ∙ same (next_entry c.args.after c.args.units.now.units)))
