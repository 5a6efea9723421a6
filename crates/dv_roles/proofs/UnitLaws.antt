-- A unit is within itself, and nothing else is.
use Rattle.std.proofs.Common.{◌≡◌, refl, sym, Bool, true, false, IsTrue}
use Rattle.std.proofs.lemmas.Bool.{true≢false}
use Rattle.std.specs.Prelude.{◌↔◌}
use Rattle.dv_value.specs.declared.id.Id.{Id}
use Rattle.dv_units.specs.Chart.{Chart, is_unit}
use Rattle.dv_units.specs.Tree.{IsWithin, up}

within-itself : (chart : Chart) (id : Id) → is_unit chart id ≡ true → IsWithin chart id id
unfolding up
within-itself chart id there = record { there = there; levels = 0; leads = refl }

pub is_unit-within : (chart : Chart) (id : Id) (b : Bool) → (IsTrue b ↔ IsWithin chart id id) → b ≡ is_unit chart id
is_unit-within chart id true leads = sym (IsWithin.there (leads.0 refl))
is_unit-within chart id false leads = of (is_unit chart id) refl
  where
    of : (b : Bool) → is_unit chart id ≡ b → false ≡ is_unit chart id
    of true there = absurd (true≢false (sym (leads.1 (within-itself chart id there))))
    of false none = sym none
