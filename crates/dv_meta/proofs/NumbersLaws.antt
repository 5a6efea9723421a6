-- What a map of names has after a name is added.
use Rattle.std.proofs.Common.{◌≡◌, ℕ, Bool, true, false, cond, Option, Some, None, refl, sym, ap, ◌∙◌, is_some, true≢false}
use Rattle.std.specs.Prelude.{encode_utf8_all, option_and_then, ◌&&◌}
use Rattle.std.specs.BTreeMap.{BTreeMap, get, get_by, is_at}
use Rattle.std.specs.Cmp.Lexicographic.{slice_cmp}
use Rattle.std.specs.Option.{option_or}
use Rattle.std.specs.Ordering.{on, nat_cmp}
use Rattle.std.proofs.lemmas.Map.Text.{is_eq-slice_cmp}
use Rattle.std.proofs.lemmas.Slice.Eq.{bytes_eq-Decides}
use Rattle.dv_meta.specs.declared.index.names.Lookups.{Lookups}
use Rattle.dv_meta.specs.declared.index.names.Numbers.{Numbers}
use Rattle.dv_schema.specs.Names.{Name, same_name}
use Rattle.dv_meta.specs.Numbers.{number_in, lookup_in}

abbrev pub Map : Type 0
Map = BTreeMap Name ℕ

abbrev pub find_in : Map → Name → Option ℕ
find_in m = get (on encode_utf8_all (slice_cmp nat_cmp)) m

option_or-None : (o : Option ℕ) → o ≡ option_or o None
option_or-None None = refl
option_or-None (Some k) = refl

pub same_bytes : (a b : Name) → same_name a b ≡ true → encode_utf8_all a ≡ encode_utf8_all b
same_bytes a b e = (bytes_eq-Decides (encode_utf8_all a) (encode_utf8_all b)).0 e

-- names that are one have one number
pub find_in-same : (m : Map) (a b : Name) → same_name a b ≡ true → find_in m a ≡ find_in m b
find_in-same m a b e = ap (λ bytes. get_by (λ k. slice_cmp nat_cmp bytes (encode_utf8_all k)) m) (same_bytes a b e)

same_name-turned : (a b : Name) → same_name a b ≡ true → same_name b a ≡ true
same_name-turned a b e = (bytes_eq-Decides (encode_utf8_all b) (encode_utf8_all a)).1 (sym (same_bytes a b e))

pub none_from : {A : Type 0} (o : Option A) → is_some o ≡ false → o ≡ None
none_from None e = refl
none_from (Some x) e = absurd (true≢false e)

pub same_name-sym : (a b : Name) (x : Bool) → same_name a b ≡ x → same_name b a ≡ x
same_name-sym a b true e = same_name-turned a b e
same_name-sym a b false e = other (same_name b a) refl
  where
    other : (y : Bool) → same_name b a ≡ y → same_name b a ≡ false
    other true f = absurd (true≢false (sym (same_name-turned b a f) ∙ e))
    other false f = f

added_at : (old new : Option ℕ) (here : Bool) (number : ℕ) → new ≡ cond here (Some number) old → (here ≡ true → old ≡ None) → new ≡ option_or old (cond here (Some number) None)
added_at old new true number e absent = e ∙ ap (λ o. option_or o (Some number)) (sym (absent refl))
added_at old new false number e absent = e ∙ option_or-None old

pub find_in-added : (m n : Map) (name : Name) (number : ℕ) → find_in m name ≡ None
    → ((q : Name) → find_in n q ≡ cond (is_at (on encode_utf8_all (slice_cmp nat_cmp) name) q) (Some number) (find_in m q))
    → (q : Name) → find_in n q ≡ option_or (find_in m q) (cond (same_name q name) (Some number) None)
find_in-added m n name number absent added q =
    let turned : is_at (on encode_utf8_all (slice_cmp nat_cmp) name) q ≡ same_name q name = is_eq-slice_cmp (encode_utf8_all name) (encode_utf8_all q) ∙ same_name-sym q name (same_name q name) refl in
    let e : find_in n q ≡ cond (same_name q name) (Some number) (find_in m q) = added q ∙ ap (λ b. cond b (Some number) (find_in m q)) turned in
    added_at _ _ (same_name q name) number e (λ same. find_in-same m q name same ∙ absent)

-- a key of a map is found by a name exactly where the two are one
pub is_at-same_name : (table t : Name) → is_at (on encode_utf8_all (slice_cmp nat_cmp) table) t ≡ same_name t table
is_at-same_name table t = is_eq-slice_cmp (encode_utf8_all table) (encode_utf8_all t) ∙ same_name-sym t table (same_name t table) refl

-- tables that are one have the same names
pub lookup_in-same : (lookups : Lookups) (a b q : Name) → same_name a b ≡ true → lookup_in lookups a q ≡ lookup_in lookups b q
unfolding lookup_in
lookup_in-same lookups a b q e = ap (λ bytes. option_and_then (λ numbers. number_in numbers q) (get_by (λ k. slice_cmp nat_cmp bytes (encode_utf8_all k)) lookups.map)) (same_bytes a b e)

looked_at : (here : Bool) (t q table name : Name) (number : ℕ) (numbers : Numbers) (old mid new : Lookups) → same_name t table ≡ here
    → ((q : Name) → number_in numbers q ≡ option_or (lookup_in old table q) (cond (same_name q name) (Some number) None))
    → ((t q : Name) → same_name t table ≡ false → lookup_in mid t q ≡ lookup_in old t q)
    → get (on encode_utf8_all (slice_cmp nat_cmp)) new.map t ≡ cond here (Some numbers) (get (on encode_utf8_all (slice_cmp nat_cmp)) mid.map t)
    → lookup_in new t q ≡ option_or (lookup_in old t q) (cond (here && same_name q name) (Some number) None)
unfolding lookup_in
looked_at true t q table name number numbers old mid new same added others e =
    ap (option_and_then (λ numbers. number_in numbers q)) e ∙ added q ∙ ap (λ o. option_or o (cond (same_name q name) (Some number) None)) (sym (lookup_in-same old t table q same))
looked_at false t q table name number numbers old mid new same added others e =
    ap (option_and_then (λ numbers. number_in numbers q)) e ∙ others t q same ∙ option_or-None (lookup_in old t q)

-- a table's numbers, with a name more, put back
pub lookup_in-added : (t q table name : Name) (number : ℕ) (numbers : Numbers) (old mid new : Lookups)
    → ((q : Name) → number_in numbers q ≡ option_or (lookup_in old table q) (cond (same_name q name) (Some number) None))
    → ((t q : Name) → same_name t table ≡ false → lookup_in mid t q ≡ lookup_in old t q)
    → ((t : Name) → get (on encode_utf8_all (slice_cmp nat_cmp)) new.map t ≡ cond (is_at (on encode_utf8_all (slice_cmp nat_cmp) table) t) (Some numbers) (get (on encode_utf8_all (slice_cmp nat_cmp)) mid.map t))
    → lookup_in new t q ≡ option_or (lookup_in old t q) (cond (same_name t table && same_name q name) (Some number) None)
lookup_in-added t q table name number numbers old mid new added others put =
    looked_at (same_name t table) t q table name number numbers old mid new refl added others
    (put t ∙ ap (λ b. cond b (Some numbers) (get (on encode_utf8_all (slice_cmp nat_cmp)) mid.map t)) (is_at-same_name table t))
