-- Which refusal comes, where a word says why.
use Rattle.std.proofs.Common.{◌≡◌, refl, List, ℕ, true, false}
use Rattle.std.specs.Prelude.{Err, Some, codes}
use Rattle.dv_value.specs.declared.id.Id.{Id}
use Rattle.dv_refusal.specs.declared.refusal.Refusal.TheVariants.{UnitRule, TeamRule}
use Rattle.dv_units.specs.Chart.{Chart, is_unit, is_user}
use Rattle.dv_units.specs.Tree.{is_root, is_within}
use Rattle.dv_units.specs.Messages.{moving_unit, membership_refused}

pub root-moved : (chart : Chart) (unit parent : Id) (why : List ℕ) → is_unit chart unit ≡ true → is_unit chart parent ≡ true → is_root chart unit ≡ true → why ≡ codes "root" → moving_unit chart unit parent ≡ Err (UnitRule why)
unfolding moving_unit
root-moved chart unit parent why here there root is = rw (here, there, root, is) refl

pub circle : (chart : Chart) (unit parent : Id) (why : List ℕ) → is_unit chart unit ≡ true → is_unit chart parent ≡ true → is_root chart unit ≡ false → is_within chart parent unit ≡ true → why ≡ codes "cycle" → moving_unit chart unit parent ≡ Err (UnitRule why)
unfolding moving_unit
circle chart unit parent why here there root within is = rw (here, there, root, within, is) refl

pub default-team : (chart : Chart) (team user : Id) (why : List ℕ) → is_unit chart team ≡ true → is_user chart user ≡ true → why ≡ codes "default" → membership_refused chart team user ≡ Some (TeamRule why)
default-team chart team user why here there is = rw (here, there, is) refl
