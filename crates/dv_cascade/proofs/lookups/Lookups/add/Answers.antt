use Rattle.std.proofs.Common.{◌≡◌, refl, ap, ◌∙◌, Bool, true, false, cond}
use Rattle.std.specs.Prelude.{◌||◌}
use Rattle.dv_cascade.specs.Cleared.{has_lookup, is_lookup}
use Rattle.dv_cascade.proofs.lookups.Lookups.add.Goals as goal

chosen : (a b : Bool) → cond a true b ≡ (a || b)
chosen true b = refl
chosen false b = refl

pub returns : goal.returns
returns c = λ other. c.in_ok-insert.ensures.updates.0 other ∙ chosen (is_lookup c.args.key other) (has_lookup c.self.inside.keys.keys other) ∙ ap (λ found. is_lookup c.args.key other || has_lookup found other) c.self.view_is
