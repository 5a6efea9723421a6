use Rattle.std.proofs.Common.{◌≡◌, ℕ, ◌+◌, ◌<◌, ◌≤◌, List, drop, get_or, length, encode_utf8_all, refl, add-one, drop-cons}
use Rattle.std.proofs.lemmas.List.{drop_all}
use Rattle.serde_json.specs.Data.{Data, Members, put}
use Rattle.dv_value.specs.Printed.{raw_data, with_values}
use Rattle.dv_value.specs.declared.raw.Raw.{Raw}

abbrev Named : Type 0
Named = List ℕ × Raw

-- the next value goes into the members
pub with_values-step : (values : List Named) (i : ℕ) (value : Named) (name : List ℕ) (d : Data) (ms : Members) → i < length values → value ≡ get_or values i value
    → name ≡ encode_utf8_all value.0 → d ≡ raw_data value.1 → with_values (drop i values) ms ≡ with_values (drop (i + 1) values) (put name d ms)
unfolding with_values
with_values-step values i value name d ms h is n e = rw (n, e, drop-cons values i value h, ← is, add-one) refl

-- all values are in the members
pub with_values-all : (values : List Named) (i : ℕ) (ms : Members) → length values ≤ i → with_values (drop i values) ms ≡ ms
unfolding with_values
with_values-all values i ms h = rw (drop_all i values h) refl
