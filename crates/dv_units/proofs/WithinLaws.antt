-- The test whether a unit is within another agrees with the levels that lead from one to the other.
use Rattle.std.proofs.Common.{◌≡◌, sym, ◌∙◌, IsTrue, length}
use Rattle.std.specs.Prelude.{◌↔◌, ◌==◌, is_some, Bool}
use Rattle.std.specs.List.{list_any}
use Rattle.std.proofs.lemmas.Bool.{and_parts, and_from}
use Rattle.dv_value.specs.declared.id.Id.{Id}
use Rattle.dv_units.specs.Chart.{Chart, at}
use Rattle.dv_units.specs.Rules.{IsChart}
use Rattle.dv_units.specs.Tree.{line, is_within, IsWithin}
use Rattle.dv_units.proofs.TreeLaws.{levels-line, line-whole}

pub within-leads : (chart : Chart) → IsChart chart → (unit above : Id) (test : Bool) → test ≡ is_within chart unit above → IsTrue test ↔ IsWithin chart unit above
unfolding is_within
within-leads chart keeps unit above test is = (
  λ h.
      let parts = and_parts (is_some (at chart.units unit)) (list_any (λ id. above.0 == id.0) (line (length chart.units) chart.units unit)) (sym is ∙ h) in
      let levels = levels-line chart.units above unit (length chart.units) parts.1 in
      record { there = parts.0; levels = levels.0; leads = levels.1 },
  λ w. is ∙ and_from (is_some (at chart.units unit)) (list_any (λ id. above.0 == id.0) (line (length chart.units) chart.units unit)) w.there (line-whole chart.units keeps.tree unit above w.there w.levels w.leads),
)
