-- A set of integers against a list of values.
use Rattle.std.specs.Prelude.{◌≡◌, ℤ, List}
use Rattle.std.specs.BTreeSet.{BTreeSet, contains}
use Rattle.std.specs.List.{list_any}
use Rattle.std.specs.Ordering.{int_cmp}
use Rattle.serde_json.specs.Data.{Data}
use Rattle.dv_form.specs.Spellings.{is_integer}

-- the set has exactly the integers that the values are
abbrev pub AreIn : BTreeSet ℤ → List Data → Type 0
AreIn set values = (n : ℤ) → contains int_cmp set n ≡ list_any (is_integer n) values
