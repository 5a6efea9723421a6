-- A raw value is null, a truth value, an integer of 64 bits or a text.
use Rattle.std.specs.Prelude.{ℕ, List, [], ◌∷◌, Option, Some, None, option_map, option_and_then, map, chars, encode_utf8_all, find}
use Rattle.std.specs.Cmp.Lexicographic.{slice_cmp}
use Rattle.std.specs.List.Sorted.{IsStrictlySortedBy}
use Rattle.std.specs.Ordering.{on, nat_cmp}
use Rattle.std.specs.Str.{bytes_eq}
use Rattle.serde_json.specs.Data.{Data, null, boolean, number, string, array, object, Members, no_members, member}
use Rattle.serde_json.specs.Find.{as_i64}
use Rattle.dv_value.specs.declared.raw.Raw.{Raw}
use Rattle.dv_value.specs.declared.raw.Raw.TheVariants.{Null, Bool, Int, Str}

-- the raw value that a JSON value is
unfoldable pub raw_of : Data → Option Raw
raw_of null = Some Null
raw_of (boolean b) = Some (Bool b)
raw_of (number n) = option_map Int (as_i64 n)
raw_of (string s) = Some (Str (chars s))
raw_of (array ds) = None
raw_of (object ms) = None

-- the raw values that an object's members are, if each of them is one
unfoldable pub values_of : Members → Option (List (List ℕ × Raw))
values_of no_members = Some []
values_of (member name d ms) = option_and_then (λ raw. option_map (λ values. (chars name, raw) ∷ values) (values_of ms)) (raw_of d)

-- the value of a name, if there is one
abbrev pub value_of : List ℕ → List (List ℕ × Raw) → Option Raw
value_of name values = option_map (λ value. value.1) (find (λ value. bytes_eq value.0 name) values)

-- the names ascend by their UTF-8 bytes, so each stands once
abbrev pub HasAscendingNames : List (List ℕ × Raw) → Type 0
HasAscendingNames values = IsStrictlySortedBy (on encode_utf8_all (slice_cmp nat_cmp)) (map (λ value. value.0) values)
