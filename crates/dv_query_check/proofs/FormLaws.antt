-- A well-typed query has a form with numbers in place of names.
use Rattle.std.proofs.Common.{◌≡◌, ℕ, ◌+◌, ◌||◌, Bool, true, false, List, [], ◌∷◌, ◌++◌, length, map, codes, slice_get, Option, Some, None, if◌then◌else◌, option_map, option_and_then, encode_utf8_all, refl, sym, ap, ◌∙◌, subst}
use Rattle.std.specs.List.{find, position, flat_map}
use Rattle.std.specs.Option.{is_some}
use Rattle.std.proofs.lemmas.Simd.{map-map}
use Rattle.dv_schema.specs.declared.definition.Definition.{Definition}
use Rattle.dv_schema.specs.declared.table.Column.{Column}
use Rattle.dv_schema.specs.declared.table.Table.{Table}
use Rattle.dv_schema.specs.Definitions.{table_of_bytes, tables_of}
use Rattle.dv_schema.specs.Names.{Name, same_name}
use Rattle.dv_query.specs.declared.filter.Condition.{Condition}
use Rattle.dv_query.specs.declared.filter.Filter.{Filter}
use Rattle.dv_query.specs.declared.filter.Filter.TheOpen.{Filter-F}
use Rattle.dv_query.specs.declared.filter.Filter.TheViews.{roll-Filter}
use Rattle.dv_query.specs.declared.filter.Filter.TheFolds.{fold-roll-Filter, ind-Filter}
use Rattle.dv_query.specs.declared.link.Link.{Link}
use Rattle.dv_query.specs.declared.link.Link.TheOpen.{Link-F}
use Rattle.dv_query.specs.declared.link.Link.TheViews.{roll-Link}
use Rattle.dv_query.specs.declared.link.Link.TheFolds.{fold-roll-Link, ind-Link}
use Rattle.dv_query.specs.declared.query.Order.{Order}
use Rattle.dv_query.specs.declared.query.Query.{Query}
use Rattle.dv_query_check.specs.declared.resolved.ResolvedCondition.{ResolvedCondition}
use Rattle.dv_query_check.specs.declared.resolved.ResolvedFilter.{ResolvedFilter}
use Rattle.dv_query_check.specs.declared.resolved.ResolvedLink.{ResolvedLink}
use Rattle.dv_query_check.specs.declared.resolved.ResolvedOrder.{ResolvedOrder}
use Rattle.dv_query_check.specs.Accepted.{HasColumn, IsTypedLink, IsTypedCondition, IsTypedOrder, IsTyped}
use Rattle.dv_query_check.specs.Columns.{table_named, column_named, is_reference, has_reference}
use Rattle.dv_query_check.specs.Comparands.{operand_in, operands_in}
use Rattle.dv_query_check.specs.ConditionFaults.{is_told_as, table_aliased, table_meant, links_named}
use Rattle.dv_query_check.specs.Each.{each_of, if_given}
use Rattle.dv_query_check.specs.Filters.{FilterAt, in_turn, filter_step, filters_in, filters_given, filters_of_link, filters_of}
use Rattle.dv_query_check.specs.Links.{LinkAt, Under, is_exists, links_in_turn, link_step, links_at, links_under, links_of}
use Rattle.dv_query_check.specs.Operands.{is_operand}
use Rattle.dv_query_check.specs.Operators.{operands_of}
use Rattle.dv_query_check.specs.Places.{member, item}
use Rattle.dv_query_check.specs.Resolved.{SourceAt, column_number, column_numbers, link_source, source_meant, comparison, condition_on, resolved_condition, resolved_conditions, filter_made, resolve_step, resolved_filter, resolved_filters, link_made, resolved_link, resolved_links, resolved_order, resolved_orders, base_source, query_made, resolved}
use Rattle.dv_query_check.proofs.AcceptedLaws.{fails_at, found_at}
use Rattle.dv_query_check.proofs.ComparandLaws.{operand_there}
use Rattle.dv_query_check.proofs.EachLaws.{each-map}
use Rattle.dv_query_check.proofs.EveryLaws.{Every, every_none, every_more, every_left, every_right, every_both, every_at, there, map_there, cons_there, each_there, given_there}

fails_and_passes : {A : Type 0} (b : Bool) → b ≡ false → b ≡ true → A
fails_and_passes true e f = absurd (cc)
fails_and_passes false e f = absurd (cc)

-- what is found has a place
place_there : {A : Type 0} (p : A → Bool) (xs : List A) (x : A) → find p xs ≡ Some x → is_some (position p xs) ≡ true
place_there p xs x e = go (position p xs) refl
  where
    go : (o : Option ℕ) → position p xs ≡ o → is_some o ≡ true
    go None is = let at = found_at p xs x e in fails_and_passes (p x) (fails_at p xs at.0 x is at.1) at.2
    go (Some n) is = refl

-- a column that is there has a number
number_there : (table : Option Table) (name : Name) (column : Column) → HasColumn table name column → is_some (column_number table name) ≡ true
unfolding column_number column_named
number_there table name column h = ap (λ t. is_some (column_number t name)) h.is_own ∙ place_there (λ c. same_name c.name name) h.own.columns column h.is_column

reference_there : (table : Option Table) (name : Name) → has_reference table name ≡ true → is_some (column_number table name) ≡ true
unfolding has_reference
reference_there None name e = absurd (cc)
reference_there (Some table) name e = go (column_named table name) refl e
  where
    go : (o : Option Column) → column_named table name ≡ o → Rattle.std.specs.Option.option_map_or (λ (c : Column). is_reference c.kind) o false ≡ true → is_some (column_number (Some table) name) ≡ true
    go None is f = absurd (cc)
    go (Some column) is f = number_there (Some table) name column (record { own = table; is_own = refl; is_column = is })

-- a table that is there has a number
table_there : (d : Definition) (name : Name) → is_some (table_named d name) ≡ true → is_some (table_of_bytes d (encode_utf8_all name)) ≡ true
unfolding table_named
table_there d name e = let table = there (table_named d name) e in place_there (λ (t : Table). same_name t.name name) (tables_of d) table.0 table.1

-- the source that is meant has the table that is meant
source_there : (own : SourceAt) (links : List LinkAt) (link : Option Name) (table : Table) → table_meant own.table links link ≡ Some table → (s : SourceAt) × (source_meant own links link ≡ Some s) × (s.table ≡ Some table)
unfolding source_meant table_meant table_aliased
source_there own links None table e = (own, refl, e)
source_there own links (Some alias) table e = go (find (is_told_as alias) links) refl e
  where
    go : (o : Option LinkAt) → find (is_told_as alias) links ≡ o → option_and_then (λ (l : LinkAt). l.table) o ≡ Some table → (s : SourceAt) × (option_map link_source (find (is_told_as alias) links) ≡ Some s) × (s.table ≡ Some table)
    go None is f = absurd (cc)
    go (Some l) is f = (link_source l, ap (option_map link_source) is, f)

comparison_there : (source : ℕ) (c : Condition) (number : ℕ) (column : Column) → Every (λ value. is_operand (operands_of c.operator) column.kind value ≡ true) c.values → is_some (comparison source c number column) ≡ true
unfolding comparison operands_in
comparison_there source c number column fine =
    map_there _ (each_of (operand_in (operands_of c.operator) column.kind) c.values) (each_there (operand_in (operands_of c.operator) column.kind) c.values (λ k value at. operand_there (operands_of c.operator) column.kind value (fine k value at)))

on_there : (c : Condition) (s : SourceAt) (table : Table) (column : Column) → s.table ≡ Some table → column_named table c.column ≡ Some column → Every (λ value. is_operand (operands_of c.operator) column.kind value ≡ true) c.values
    → is_some (condition_on c s) ≡ true
unfolding condition_on
on_there c s table column is at fine =
    let number = there (column_number (Some table) c.column) (number_there (Some table) c.column column (record { own = table; is_own = refl; is_column = at })) in
    rw (is, number.1, at) (comparison_there s.number c number.0 column fine)

condition_there : (own : SourceAt) (links : List LinkAt) (c : Condition) → IsTypedCondition own.table links c → is_some (resolved_condition own links c) ≡ true
unfolding resolved_condition
condition_there own links c t =
    let s = source_there own links c.link t.is_there.own t.is_there.is_own in
    rw s.1 (on_there c s.0 t.is_there.own t.column s.2 t.is_there.is_column t.values)

order_there : (own : SourceAt) (links : List LinkAt) (o : Order) → IsTypedOrder own.table links o → is_some (resolved_order own links o) ≡ true
unfolding resolved_order
order_there own links o t =
    let s = source_there own links o.link t.is_there.own t.is_there.is_own in
    rw s.1 (map_there _ (column_number s.0.table o.column) (number_there s.0.table o.column t.column (record { own = t.is_there.own; is_own = s.2; is_column = t.is_there.is_column })))

-- the conditions of a filter are well typed
abbrev IsTypedFilter : List LinkAt → FilterAt → Type 0
IsTypedFilter links f = Every (IsTypedCondition f.table (links_named links f)) f.conditions

-- a filter whose conditions, and those of the filters in it, are well typed has its form
abbrev HasForm : SourceAt → List LinkAt → Bool → Filter → Type 0
HasForm own links free f = (place : List ℕ) → Every (IsTypedFilter links) (filters_in own.table free f place) → is_some (resolved_filter own (if free then links else []) f) ≡ true

forms_there : (own : SourceAt) (links : List LinkAt) (free : Bool) (fs : List ((f : Filter) × HasForm own links free f)) (place : List ℕ) (i : ℕ)
    → Every (IsTypedFilter links) (in_turn place i (map (filters_in own.table free) (map (λ e. e.0) fs))) → is_some (resolved_filters own (if free then links else []) (map (λ e. e.0) fs)) ≡ true
unfolding resolved_filters each_of in_turn
forms_there own links free [] place i fine = refl
forms_there own links free (e ∷ fs) place i fine =
    let here = filters_in own.table free e.0 (item place i) in
    let rest = in_turn place (i + 1) (map (filters_in own.table free) (map (λ f. f.0) fs)) in
    cons_there (resolved_filter own (if free then links else []) e.0) (each_of (resolved_filter own (if free then links else [])) (map (λ f. f.0) fs))
    (e.1 (item place i) (every_left (IsTypedFilter links) here rest fine))
    (forms_there own links free fs place (i + 1) (every_right (IsTypedFilter links) here rest fine))

made_there : (any : Bool) (conditions : Option (List ResolvedCondition)) (filters : Option (List ResolvedFilter)) → is_some conditions ≡ true → is_some filters ≡ true → is_some (filter_made any conditions filters) ≡ true
unfolding filter_made
made_there any None filters e f = absurd (cc)
made_there any (Some cs) None e f = absurd (cc)
made_there any (Some cs) (Some fs) e f = refl

filters_rolled : (table : Option Table) (free : Bool) (x : Filter-F Filter) (place : List ℕ) → filters_in table free (roll-Filter x) place
    ≡ (record { place = place; table = table; names_links = free; conditions = x.conditions }) ∷ in_turn (member place (codes "filters")) 0 (map (filters_in table free) x.filters)
unfolding filters_in filter_step
filters_rolled table free x place = ap (λ (u : List ℕ → List FilterAt). u place) (fold-roll-Filter (List ℕ → List FilterAt) (filter_step table free) x)

form_rolled : (own : SourceAt) (links : List LinkAt) (x : Filter-F Filter) → resolved_filter own links (roll-Filter x) ≡ filter_made x.any (resolved_conditions own links x.conditions) (resolved_filters own links x.filters)
unfolding resolved_filter resolved_filters resolve_step
form_rolled own links x =
    fold-roll-Filter (Option ResolvedFilter) (resolve_step own links) x
    ∙ ap (filter_made x.any (resolved_conditions own links x.conditions)) (each-map (λ (inner : Option ResolvedFilter). inner) (resolved_filter own links) x.filters)

form_there : (own : SourceAt) (links : List LinkAt) (free : Bool) (f : Filter) → HasForm own links free f
unfolding resolved_conditions
form_there own links free = ind-Filter (HasForm own links free) (λ x y is place fine.
    let named = if free then links else [] in
    let typed = subst (Every (IsTypedFilter links)) (filters_rolled own.table free x place) fine in
    let conditions = each_there (resolved_condition own named) x.conditions (λ k c at. condition_there own named c (typed 0 _ refl k c at)) in
    let inner = subst (λ z. Every (IsTypedFilter links) (in_turn (member place (codes "filters")) 0 (map (filters_in own.table free) z.filters)) → is_some (resolved_filters own named z.filters) ≡ true) is (forms_there own links free y.filters (member place (codes "filters")) 0) in
    ap is_some (form_rolled own named x) ∙ made_there x.any (resolved_conditions own named x.conditions) (resolved_filters own named x.filters) conditions (inner (λ k g at. typed (Rattle.std.proofs.Common.suc k) g at)))

given_form : (own : SourceAt) (links : List LinkAt) (free : Bool) (filter : Option Filter) (place : List ℕ) → Every (IsTypedFilter links) (filters_given own.table free filter place) → is_some (if_given (resolved_filter own (if free then links else [])) filter) ≡ true
unfolding filters_given if_given
given_form own links free None place fine = refl
given_form own links free (Some f) place fine = map_there Some (resolved_filter own (if free then links else []) f) (form_there own links free f place fine)

-- a link has the table of the name
abbrev IsOfName : Definition → LinkAt → Type 0
IsOfName d l = l.table ≡ table_named d l.named

abbrev AreOfNames : Definition → Link → Type 0
AreOfNames d link = (outer : Option Table) (hidden : Bool) (above number : ℕ) (place : List ℕ) → Every (IsOfName d) (links_under d outer hidden above link number place)

turns_named : (d : Definition) (ls : List ((l : Link) × AreOfNames d l)) (outer : Option Table) (hidden : Bool) (above : ℕ) (place : List ℕ) (i number : ℕ)
    → Every (IsOfName d) (links_in_turn place i number (map (links_under d outer hidden above) (map (λ e. e.0) ls)))
unfolding links_in_turn
turns_named d [] outer hidden above place i number = every_none (IsOfName d)
turns_named d (e ∷ ls) outer hidden above place i number =
    let here = links_under d outer hidden above e.0 number (item place i) in
    every_both (IsOfName d) here (links_in_turn place (i + 1) (number + length here) (map (links_under d outer hidden above) (map (λ f. f.0) ls)))
    (e.1 outer hidden above number (item place i))
    (turns_named d ls outer hidden above place (i + 1) (number + length here))

-- a link in its place
abbrev pub rolled_link : Definition → Link-F Link → Option Table → Bool → ℕ → ℕ → List ℕ → LinkAt
rolled_link d x outer hidden above number place = record {
  place = place;
  number = number;
  above = above;
  outer = outer;
  table = table_named d x.table;
  named = x.table;
  join = x.join;
  hidden = hidden || is_exists x.join;
  from = x.from;
  to = x.to;
  alias = x.alias;
  columns = x.columns;
  filter = x.filter;
}

pub links_rolled : (d : Definition) (x : Link-F Link) (outer : Option Table) (hidden : Bool) (above number : ℕ) (place : List ℕ) → links_under d outer hidden above (roll-Link x) number place
    ≡ rolled_link d x outer hidden above number place
    ∷ links_in_turn (member place (codes "links")) 0 (number + 1) (map (links_under d (table_named d x.table) (hidden || is_exists x.join) number) x.links)
unfolding links_at link_step
links_rolled d x outer hidden above number place =
    let table = table_named d x.table in
    let under = hidden || is_exists x.join in
    ap (λ (u : Under). u outer hidden above number place) (fold-roll-Link Under (link_step d) x)
    ∙ ap (λ us. rolled_link d x outer hidden above number place ∷ links_in_turn (member place (codes "links")) 0 (number + 1) us) (map-map (λ (u : Under). u table under number) (links_at d) x.links)

link_named : (d : Definition) (link : Link) → AreOfNames d link
link_named d = ind-Link (AreOfNames d) (λ x y is outer hidden above number place.
    let under = hidden || is_exists x.join in
    let inner = subst (λ z. Every (IsOfName d) (links_in_turn (member place (codes "links")) 0 (number + 1) (map (links_under d (table_named d x.table) under number) z.links))) is (turns_named d y.links (table_named d x.table) under number (member place (codes "links")) 0 (number + 1)) in
    subst (Every (IsOfName d)) (sym (links_rolled d x outer hidden above number place)) (every_more (IsOfName d) _ _ refl inner))

all_named : (d : Definition) (ls : List Link) (outer : Option Table) (place : List ℕ) (i number : ℕ) → Every (IsOfName d) (links_in_turn place i number (map (links_under d outer false 0) ls))
unfolding links_in_turn
all_named d [] outer place i number = every_none (IsOfName d)
all_named d (l ∷ ls) outer place i number =
    let here = links_under d outer false 0 l number (item place i) in
    every_both (IsOfName d) here (links_in_turn place (i + 1) (number + length here) (map (links_under d outer false 0) ls))
    (link_named d l outer false 0 number (item place i))
    (all_named d ls outer place (i + 1) (number + length here))

joined_there : (outer : ℕ) (join : _) (table from to : Option ℕ) (columns : Option (List ℕ)) (filter : Option (Option ResolvedFilter)) → is_some table ≡ true → is_some from ≡ true → is_some to ≡ true → is_some columns ≡ true → is_some filter ≡ true
    → is_some (link_made outer join table from to columns filter) ≡ true
unfolding link_made
joined_there outer join None from to columns filter e1 e2 e3 e4 e5 = absurd (cc)
joined_there outer join (Some t) None to columns filter e1 e2 e3 e4 e5 = absurd (cc)
joined_there outer join (Some t) (Some a) None columns filter e1 e2 e3 e4 e5 = absurd (cc)
joined_there outer join (Some t) (Some a) (Some b) None filter e1 e2 e3 e4 e5 = absurd (cc)
joined_there outer join (Some t) (Some a) (Some b) (Some cs) None e1 e2 e3 e4 e5 = absurd (cc)
joined_there outer join (Some t) (Some a) (Some b) (Some cs) (Some f) e1 e2 e3 e4 e5 = refl

link_there : (d : Definition) (links earlier : List LinkAt) (l : LinkAt) → IsOfName d l → IsTypedLink earlier l → Every (IsTypedFilter links) (filters_of_link l) → is_some (resolved_link d l) ≡ true
unfolding resolved_link column_numbers filters_of_link
link_there d links earlier l named t fine =
    joined_there l.above l.join _ _ _ _ _
    (table_there d l.named (ap is_some (sym named) ∙ t.table))
    (reference_there l.outer l.from t.from)
    (reference_there l.table l.to t.to)
    (each_there (column_number l.table) l.columns (λ k name at. let asked = t.columns k name at in number_there l.table name asked.column asked.is_there))
    (given_form (link_source l) links false l.filter (member l.place (codes "filter")) fine)

query_there : (table : Option ℕ) (columns : Option (Option (List ℕ))) (filter : Option (Option ResolvedFilter)) (links : Option (List ResolvedLink)) (orders : Option (List ResolvedOrder))
    → is_some table ≡ true → is_some columns ≡ true → is_some filter ≡ true → is_some links ≡ true → is_some orders ≡ true → is_some (query_made table columns filter links orders) ≡ true
unfolding query_made
query_there None columns filter links orders e1 e2 e3 e4 e5 = absurd (cc)
query_there (Some t) None filter links orders e1 e2 e3 e4 e5 = absurd (cc)
query_there (Some t) (Some cs) None links orders e1 e2 e3 e4 e5 = absurd (cc)
query_there (Some t) (Some cs) (Some f) None orders e1 e2 e3 e4 e5 = absurd (cc)
query_there (Some t) (Some cs) (Some f) (Some ls) None e1 e2 e3 e4 e5 = absurd (cc)
query_there (Some t) (Some cs) (Some f) (Some ls) (Some os) e1 e2 e3 e4 e5 = refl

-- a well-typed query has its form
pub typed_has_form : (d : Definition) (q : Query) → IsTyped d q → is_some (resolved d q) ≡ true
unfolding resolved resolved_links resolved_orders column_numbers filters_of links_of
typed_has_form d q t =
    let base = base_source d q in
    let links = links_of d q in
    let own = filters_given base.table true q.filter (codes "filter") in
    let fine : Every (IsTypedFilter links) (own ++ flat_map filters_of_link links) = λ i f at k c is. t.conditions i k f c at is in
    let of_links = every_right (IsTypedFilter links) own (flat_map filters_of_link links) fine in
    let named : Every (IsOfName d) links = all_named d q.links base.table (codes "links") 0 1 in
    query_there _ _ _ _ _
    (table_there d q.table t.table)
    (given_there (column_numbers base.table) q.columns (λ names is. each_there (column_number base.table) names (λ k name at. let column = t.columns names is k name at in number_there base.table name column.0 column.1)))
    (given_form base links true q.filter (codes "filter") (every_left (IsTypedFilter links) own (flat_map filters_of_link links) fine))
    (each_there (resolved_link d) links (λ k l at. link_there d links _ l (named k l at) (t.links k l at) (every_at (IsTypedFilter links) filters_of_link links of_links k l at)))
    (each_there (resolved_order base links) q.orders (λ k o at. order_there base links o (t.orders k o at)))
