-- What is listed of a filter: the filter, and those in it.
use Rattle.std.proofs.Common.{◌≡◌, ℕ, ◌+◌, ◌<◌, ◌≤◌, Bool, List, [], ◌∷◌, ◌++◌, length, drop, get_or, map, codes, Option, option_map, sym, ap, ◌∙◌}
use Rattle.std.specs.List.{flat_map}
use Rattle.std.proofs.lemmas.List.{append_assoc, append-nil, drop_more, drop_all}
use Rattle.dv_schema.specs.declared.table.Table.{Table}
use Rattle.dv_query.specs.declared.filter.Filter.{Filter}
use Rattle.dv_query.specs.declared.filter.Filter.TheViews.{out-Filter}
use Rattle.dv_query.specs.declared.filter.Filter.TheFolds.{fold_out-Filter}
use Rattle.dv_query.specs.declared.filter.Condition.{Condition}
use Rattle.dv_query_check.specs.declared.filters.PlacedFilter.{PlacedFilter}
use Rattle.dv_query_check.specs.Filters.{FilterAt, in_turn, filter_step, filters_in}
use Rattle.dv_query_check.specs.Placed.{filter_at}
use Rattle.dv_query_check.specs.Places.{member}

-- a filter, and those in it
filters_out : (table : Option Table) (free : Bool) (f : Filter) (place : List ℕ) → filters_in table free f place
    ≡ (record { place = place; table = table; names_links = free; conditions = (out-Filter f).conditions })
    ∷ in_turn (member place (codes "filters")) 0 (map (filters_in table free) (out-Filter f).filters)
unfolding filters_in filter_step
filters_out table free f place = ap (λ (u : List ℕ → List FilterAt). u place) (fold_out-Filter (List ℕ → List FilterAt) (filter_step table free) f)

-- the same, by what the code has in these places
filters_out_by : (table : Option Table) (free : Bool) (f : Filter) (place inside : List ℕ) (conditions : List Condition) (filters : List Filter)
    → inside ≡ member place (codes "filters") → conditions ≡ (out-Filter f).conditions → filters ≡ (out-Filter f).filters
    → (record { place = place; table = table; names_links = free; conditions = conditions }) ∷ in_turn inside 0 (map (filters_in table free) filters) ≡ filters_in table free f place
filters_out_by table free f place inside conditions filters e1 e2 e3 = rw (e1, e2, e3) (sym (filters_out table free f place))

-- a filter that is added, and those in it
pub filter_added : (p : PlacedFilter) (f : Filter) (inside : List ℕ) (filters : List Filter) (olds news finals : List FilterAt)
    → inside ≡ member p.place (codes "filters") → p.conditions.now ≡ (out-Filter f).conditions → filters ≡ (out-Filter f).filters
    → news ≡ olds ++ filter_at p ∷ [] → finals ≡ news ++ in_turn inside 0 (map (filters_in (option_map (λ t. t.now) p.table) p.names_links) filters)
    → finals ≡ olds ++ filters_in (option_map (λ t. t.now) p.table) p.names_links f p.place
unfolding filter_at
filter_added p f inside filters olds news finals e1 e2 e3 kept added =
    let table = option_map (λ t. t.now) p.table in
    let rest = in_turn inside 0 (map (filters_in table p.names_links) filters) in
    added ∙ ap (λ xs. xs ++ rest) kept ∙ append_assoc olds (filter_at p ∷ []) rest
    ∙ ap (λ xs. olds ++ xs) (filters_out_by table p.names_links f p.place inside p.conditions.now filters e1 e2 e3)

-- one link more
pub flat_more : {X Y A : Type 0} (h : Y → List A) (f : X → Y) (xs : List X) (i : ℕ) (x : X) (old new : List A) → i < length xs → x ≡ get_or xs i x → new ≡ old ++ h (f x)
    → old ++ flat_map h (map f (drop i xs)) ≡ new ++ flat_map h (map f (drop (i + 1) xs))
flat_more h f xs i x old new within read e =
    let next : drop i xs ≡ x ∷ drop (i + 1) xs = drop_more xs i x within ∙ ap (λ y. y ∷ drop (i + 1) xs) (sym read) in
    ap (λ ys. old ++ flat_map h (map f ys)) next
    ∙ sym (append_assoc old (h (f x)) (flat_map h (map f (drop (i + 1) xs))))
    ∙ ap (λ ys. ys ++ flat_map h (map f (drop (i + 1) xs))) (sym e)

-- no link is left
pub flat_end : {X Y A : Type 0} (h : Y → List A) (f : X → Y) (xs : List X) (i : ℕ) (new : List A) → length xs ≤ i → new ++ flat_map h (map f (drop i xs)) ≡ new
flat_end h f xs i new past = ap (λ ys. new ++ flat_map h (map f ys)) (drop_all i xs past) ∙ append-nil new
