-- A registration names a step by its place among the steps that the program has.
use Rattle.std.specs.Prelude.{ℕ, Bool, not, Option, nat_lt, option_map, position}
use Rattle.dv_schema.specs.declared.draft.Draft.{Draft}
use Rattle.dv_schema.specs.declared.draft.DraftRegistration.{DraftRegistration}
use Rattle.dv_schema.specs.declared.place.Place.{Place}
use Rattle.dv_schema.specs.declared.place.Place.TheVariants.{Registration}

-- whether the program has fewer steps
abbrev pub step_unknown : ℕ → DraftRegistration → Bool
step_unknown steps g = not (nat_lt g.step steps)

-- the first registration of a step that isn't there
unfoldable pub unknown_step : ℕ → Draft → Option Place
unknown_step steps draft = option_map Registration (position (step_unknown steps) draft.steps)
