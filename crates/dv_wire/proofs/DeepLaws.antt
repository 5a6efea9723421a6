-- What is read of the items of a list is what is read of each by itself.
use Rattle.std.proofs.Common.{◌≡◌, ℕ, ◌+◌, ◌≤◌, max, List, [], ◌∷◌, map, Option, Some, None, option_map, option_and_then, unwrap_or, refl, ap, subst, arith, Global, Ordering, Less, Equal, Greater}
use Rattle.std.specs.Ordering.{nat_cmp, match_ordering}
use Rattle.std.specs.Vec.Iter.{into_iter_items, into_iter_steps}
use Rattle.std.specs.declared.vec.IntoIter.{IntoIter}
use Rattle.std.specs.Cmp.Lexicographic.{slice_cmp}
use Rattle.serde_json.specs.Data.{Data, null, boolean, number, string, array, object, Items, no_items, item, Members, no_members, member, depth, items_depth, members_depth}
use Rattle.serde_json.specs.Find.{get_member, as_array}
use Rattle.serde_json.specs.View.{items_of, items_view, view}
use Rattle.serde_json.specs.declared.value.Value.{Value}
use Rattle.dv_wire.specs.Deep.{deep, deep_under, deep_list, deep_each}
use Rattle.dv_form.specs.Members.{data_list, members_in}
use Rattle.dv_wire.specs.Members.{list_in, list_if, list_at}

abbrev Step : Type 0 → Type 0
Step A = Data → (List ℕ → List A) → A

each : {A : Type 0} (step : Step A) (ds : Items) → deep_each step ds ≡ map (deep step) (data_list ds)
unfolding deep
each step no_items = refl
each step (item d ds) = ap (λ xs. deep step d ∷ xs) (each step ds)

abbrev items : Option Items → List Data
items o = unwrap_or (option_map data_list o) []

in_list : {A : Type 0} (step : Step A) (d : Data) → deep_list step d ≡ map (deep step) (items (as_array d))
unfolding deep
in_list step null = refl
in_list step (boolean b) = refl
in_list step (number n) = refl
in_list step (string s) = refl
in_list step (array ds) = each step ds
in_list step (object ms) = refl

under_at : {A : Type 0} (step : Step A) (o : Ordering) (e : Data) (ms : Members) (name : List ℕ) (rest : List A)
    → rest ≡ map (deep step) (items (option_and_then as_array (get_member name ms)))
    → match_ordering o rest (deep_list step e) rest ≡ map (deep step) (items (option_and_then as_array (match_ordering o (get_member name ms) (Some e) (get_member name ms))))
under_at step Less e ms name rest h = h
under_at step Equal e ms name rest h = in_list step e
under_at step Greater e ms name rest h = h

under : {A : Type 0} (step : Step A) (ms : Members) (name : List ℕ) → deep_under step ms name ≡ map (deep step) (items (option_and_then as_array (get_member name ms)))
unfolding deep
under step no_members name = refl
under step (member key d ms) name = under_at step (slice_cmp nat_cmp name key) d ms name (deep_under step ms name) (under step ms name)

-- the step is given what is read of the lists in the value
pub deep-step : {A : Type 0} (step : Step A) (d : Data) → deep step d ≡ step d (λ name. map (deep step) (list_at name d))
unfolding deep list_if
deep-step step null = refl
deep-step step (boolean b) = refl
deep-step step (number n) = refl
deep-step step (string s) = refl
deep-step step (array ds) = refl
deep-step step (object ms) = ap (step (object ms)) (λ i name. under step ms name i)

below_at : (o : Ordering) (e d : Data) (name : List ℕ) (ms : Members) (n : ℕ) → match_ordering o (get_member name ms) (Some e) (get_member name ms) ≡ Some d
    → depth e ≤ n → (get_member name ms ≡ Some d → depth d ≤ n) → depth d ≤ n
below_at Less e d name ms n is h k = k is
below_at Equal e d name ms n is h k = subst (λ o. depth (unwrap_or o null) ≤ n) is h
below_at Greater e d name ms n is h k = k is

member_below : (ms : Members) (name : List ℕ) (d : Data) → get_member name ms ≡ Some d → depth d ≤ members_depth ms
member_below no_members name d is = absurd (cc)
member_below (member key e ms) name d is = below_at (slice_cmp nat_cmp name key) e d name ms (max (depth e) (members_depth ms)) is (omega arith) (λ k. omega (arith, member_below ms name d k))

items_of-data_list : (ds : Items) → items_of (data_list ds) ≡ ds
items_of-data_list no_items = refl
items_of-data_list (item d ds) = ap (item d) (items_of-data_list ds)

of_array : (e : Data) (ds : List Data) (n : ℕ) → option_map data_list (as_array e) ≡ Some ds → depth e ≤ n → items_depth (items_of ds) + 1 ≤ n
of_array null ds n is h = absurd (cc)
of_array (boolean b) ds n is h = absurd (cc)
of_array (number x) ds n is h = absurd (cc)
of_array (string s) ds n is h = absurd (cc)
of_array (array xs) ds n is h = subst (λ o. items_depth (items_of (unwrap_or o [])) + 1 ≤ n) is (rw (items_of-data_list xs) (omega (arith, h)))
of_array (object ms) ds n is h = absurd (cc)

of_member : (o : Option Data) (ds : List Data) (n : ℕ) → option_map data_list (option_and_then as_array o) ≡ Some ds → ((e : Data) → o ≡ Some e → depth e ≤ n)
    → items_depth (items_of ds) + 1 ≤ n
of_member None ds n is h = absurd (cc)
of_member (Some e) ds n is h = of_array e ds n is (h e refl)

-- the items of a list among members nest less deep than the members
pub list_below : (name : List ℕ) (ms : Members) (ds : List Data) → list_in name ms ≡ Some ds → items_depth (items_of ds) + 1 ≤ members_depth ms
list_below name ms ds is = of_member (get_member name ms) ds (members_depth ms) is (λ e k. member_below ms name e k)

-- members nest no deeper than their object
pub members_below : (d : Data) → members_depth (members_in d) ≤ depth d
unfolding members_in
members_below null = omega arith
members_below (boolean b) = omega arith
members_below (number x) = omega arith
members_below (string s) = omega arith
members_below (array ds) = omega arith
members_below (object ms) = omega arith

-- items that nest so deep at most: the first of them, and those after it
pub first_below : (vs rest : List Value) (v : Value) (n : ℕ) → vs ≡ v ∷ rest → items_depth (items_view vs) ≤ n → depth (view v) ≤ n
first_below vs rest v n is h = let k : items_depth (items_view (v ∷ rest)) ≤ n = subst (λ xs. items_depth (items_view xs) ≤ n) is h in omega (arith, k)

pub rest_below : (vs rest : List Value) (v : Value) (n : ℕ) → vs ≡ v ∷ rest → items_depth (items_view vs) ≤ n → items_depth (items_view rest) ≤ n
rest_below vs rest v n is h = let k : items_depth (items_view (v ∷ rest)) ≤ n = subst (λ xs. items_depth (items_view xs) ≤ n) is h in omega (arith, k)

-- a call of `next` that gave an item
pub next_is : (s t : IntoIter Value Global) (r : Option Value) (v : Value) → r ≡ Some v → into_iter_steps s r t → into_iter_items s ≡ v ∷ into_iter_items t
next_is s t r v is h = (subst (λ o. into_iter_steps s o t) is h).0
