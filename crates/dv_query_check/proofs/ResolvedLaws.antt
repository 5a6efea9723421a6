-- A query, a link and a filter with numbers in place of names are made of their parts.
use Rattle.std.proofs.Common.{◌≡◌, ℕ, List, Option, encode_utf8_all, refl, sym, ap, ◌∙◌}
use Rattle.dv_schema.specs.declared.definition.Definition.{Definition}
use Rattle.dv_schema.specs.declared.table.Table.{Table}
use Rattle.dv_schema.specs.Definitions.{table_of_bytes}
use Rattle.dv_query.specs.declared.filter.Condition.{Condition}
use Rattle.dv_query.specs.declared.filter.Filter.{Filter}
use Rattle.dv_query.specs.declared.filter.Filter.TheViews.{out-Filter}
use Rattle.dv_query.specs.declared.filter.Filter.TheFolds.{fold_out-Filter}
use Rattle.dv_query.specs.declared.query.Query.{Query}
use Rattle.dv_query_check.specs.declared.resolved.ResolvedCondition.{ResolvedCondition}
use Rattle.dv_query_check.specs.declared.resolved.ResolvedFilter.{ResolvedFilter}
use Rattle.dv_query_check.specs.declared.resolved.ResolvedLink.{ResolvedLink}
use Rattle.dv_query_check.specs.declared.resolved.ResolvedOrder.{ResolvedOrder}
use Rattle.dv_query_check.specs.Columns.{table_named}
use Rattle.dv_query_check.specs.Each.{if_given}
use Rattle.dv_query_check.specs.Links.{LinkAt, links_of}
use Rattle.dv_query_check.specs.Resolved.{SourceAt, column_numbers, resolved_conditions, filter_made, resolve_step, resolved_filter, resolved_filters, resolved_links, resolved_orders, base_source, query_made, resolved}
use Rattle.dv_query_check.proofs.EachLaws.{each-map}

-- a filter, of its conditions and of those in it
pub filter_out : (own : SourceAt) (links : List LinkAt) (f : Filter) → resolved_filter own links f
    ≡ filter_made (out-Filter f).any (resolved_conditions own links (out-Filter f).conditions) (resolved_filters own links (out-Filter f).filters)
unfolding resolved_filter resolved_filters resolve_step
filter_out own links f =
    fold_out-Filter (Option ResolvedFilter) (resolve_step own links) f
    ∙ ap (filter_made (out-Filter f).any (resolved_conditions own links (out-Filter f).conditions)) (each-map (λ (inner : Option ResolvedFilter). inner) (resolved_filter own links) (out-Filter f).filters)

-- the same, by what the code has in these places
pub filter_by : (own : SourceAt) (links : List LinkAt) (f : Filter) (cs : List Condition) (fs : List Filter) (conditions : Option (List ResolvedCondition)) (filters : Option (List ResolvedFilter))
    → cs ≡ (out-Filter f).conditions → fs ≡ (out-Filter f).filters → conditions ≡ resolved_conditions own links cs → filters ≡ resolved_filters own links fs
    → filter_made (out-Filter f).any conditions filters ≡ resolved_filter own links f
filter_by own links f cs fs conditions filters e1 e2 e3 e4 =
    ap (λ o. filter_made (out-Filter f).any o filters) (e3 ∙ ap (resolved_conditions own links) e1)
    ∙ ap (filter_made (out-Filter f).any (resolved_conditions own links (out-Filter f).conditions)) (e4 ∙ ap (resolved_filters own links) e2)
    ∙ sym (filter_out own links f)

-- a query, by what the code has in the places of its parts
pub query_by : (d : Definition) (q : Query) (base : SourceAt) (links : List LinkAt) (table : Option ℕ) (columns : Option (Option (List ℕ))) (filter : Option (Option ResolvedFilter)) (joined : Option (List ResolvedLink)) (orders : Option (List ResolvedOrder))
    → base ≡ base_source d q → links ≡ links_of d q → table ≡ table_of_bytes d (encode_utf8_all q.table) → columns ≡ if_given (column_numbers base.table) q.columns
    → filter ≡ if_given (resolved_filter base links) q.filter → joined ≡ resolved_links d links → orders ≡ resolved_orders base links q.orders
    → query_made table columns filter joined orders ≡ resolved d q
unfolding resolved
query_by d q base links table columns filter joined orders e1 e2 e3 e4 e5 e6 e7 = rw (e3, e4, e5, e6, e7, e1, e2) refl

-- a source of the query's own table
pub as_base : (d : Definition) (q : Query) (table : Option Table) → table ≡ table_named d q.table → record { number = 0; table = table } ≡ base_source d q
as_base d q table e = ap (λ (t : Option Table). as_source t) e
  where
    as_source : Option Table → SourceAt
    as_source t = record { number = 0; table = t }
