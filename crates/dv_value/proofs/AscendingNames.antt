-- The members of an object ascend by their names, and so do the raw values that they are.
use Rattle.std.proofs.Common.{◌≡◌, ◌∙◌, refl, sym, ap, ℕ, List, [], ◌∷◌, map, Option, Some, None, IfSome, String, Global, chars, encode_utf8_all, string_bytes}
use Rattle.std.proofs.lemmas.Str.{encodes-chars, IsUtf8-string_bytes}
use Rattle.std.specs.Cmp.Lexicographic.{slice_cmp}
use Rattle.std.specs.List.{AllByRecursion}
use Rattle.std.specs.List.Sorted.{IsStrictlySortedBy}
use Rattle.std.specs.Option.{option_map, option_and_then}
use Rattle.std.specs.Ordering.{on, nat_cmp}
use Rattle.std.specs.Prelude.{string_cmp}
use Rattle.std.specs.declared.cmp.Ordering.{Ordering}
use Rattle.std.specs.declared.cmp.Ordering.TheVariants.{Less}
use Rattle.serde_json.specs.View.{members_view}
use Rattle.serde_json.specs.declared.value.Value.{Value as Json}
use Rattle.dv_value.specs.Raws.{values_of, HasAscendingNames}
use Rattle.dv_value.specs.declared.raw.Raw.{Raw}

abbrev Named : Type 0
Named = List ℕ × Raw

name_of : String Global → List ℕ
name_of s = chars (string_bytes s)

by_bytes : List ℕ → List ℕ → Ordering
by_bytes = on encode_utf8_all (slice_cmp nat_cmp)

names : List (String Global × Json) → List (List ℕ)
names es = map (λ e. name_of e.0) es

-- the order of two names is that of the strings
same_order : (a b : String Global) → by_bytes (name_of a) (name_of b) ≡ string_cmp a b
unfolding name_of by_bytes
same_order a b = rw (encodes-chars (string_bytes a) (IsUtf8-string_bytes a), encodes-chars (string_bytes b) (IsUtf8-string_bytes b)) refl

later : (k : String Global) (es : List (String Global × Json)) → AllByRecursion (λ y. string_cmp k y ≡ Less) (map (λ e. e.0) es) → AllByRecursion (λ y. by_bytes (name_of k) y ≡ Less) (names es)
unfolding names
later k [] least = tt
later k (e ∷ es) least = (same_order k e.0 ∙ least.0, later k es least.1)

ascending : (es : List (String Global × Json)) → IsStrictlySortedBy string_cmp (map (λ e. e.0) es) → IsStrictlySortedBy by_bytes (names es)
unfolding names IsStrictlySortedBy
ascending [] order = tt
ascending (e ∷ es) order = (later e.0 es order.0, ascending es order.1)

front_of : (name : List ℕ) (o : Option Raw) (p : Option (List Named)) (values : List Named) → option_and_then (λ raw. option_map (λ rest. (name, raw) ∷ rest) p) o ≡ Some values
    → (rest : List Named) × (p ≡ Some rest) × (map (λ v. v.0) values ≡ name ∷ map (λ v. v.0) rest)
front_of name None p values e = absurd (cc e)
front_of name (Some raw) None values e = absurd (cc e)
front_of name (Some raw) (Some rest) values e =
    let is : (name, raw) ∷ rest ≡ values = cc e in
    (rest, refl, ap (map (λ v. v.0)) (sym is))

names_are : (es : List (String Global × Json)) (values : List Named) → values_of (members_view es) ≡ Some values → map (λ v. v.0) values ≡ names es
unfolding values_of names name_of
names_are [] values e = let is : values ≡ [] = cc e in ap (map (λ v. v.0)) is
names_are (m ∷ es) values e =
    let (rest, more, is) = front_of _ _ _ values e in
    is ∙ ap (λ ns. name_of m.0 ∷ ns) (names_are es rest more)

-- the names of the values ascend
pub names_ascend : (es : List (String Global × Json)) (r : Option (List Named)) → r ≡ values_of (members_view es) → IsStrictlySortedBy string_cmp (map (λ e. e.0) es) → IfSome r HasAscendingNames
unfolding by_bytes
names_ascend es None is order = tt
names_ascend es (Some values) is order = rw (names_are es values (sym is)) (ascending es order)
