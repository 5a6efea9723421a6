-- What a query says with numbers in place of names. The query's own table is source 0, and its links in preorder are the sources 1 and on. A table's number is its place in the definition, a column's its place in its table. Where a name isn't there, or a value isn't one of its column, there is nothing.
use Rattle.std.specs.Prelude.{ℕ, Bool, List, [], Option, Some, None, option_map, option_and_then, position, find, encode_utf8_all}
use Rattle.dv_schema.specs.declared.definition.Definition.{Definition}
use Rattle.dv_schema.specs.declared.table.Column.{Column}
use Rattle.dv_schema.specs.declared.table.Table.{Table}
use Rattle.dv_schema.specs.Definitions.{table_of_bytes}
use Rattle.dv_schema.specs.Names.{Name, same_name}
use Rattle.dv_query.specs.declared.filter.Condition.{Condition}
use Rattle.dv_query.specs.declared.filter.Filter.{Filter}
use Rattle.dv_query.specs.declared.filter.Filter.TheOpen.{Filter-F}
use Rattle.dv_query.specs.declared.filter.Filter.TheFolds.{fold-Filter}
use Rattle.dv_query.specs.declared.link.Join.{Join}
use Rattle.dv_query.specs.declared.query.Order.{Order}
use Rattle.dv_query.specs.declared.query.Query.{Query}
use Rattle.dv_query_check.specs.declared.resolved.ResolvedCondition.{ResolvedCondition}
use Rattle.dv_query_check.specs.declared.resolved.ResolvedFilter.{ResolvedFilter}
use Rattle.dv_query_check.specs.declared.resolved.ResolvedFilter.TheViews.{roll-ResolvedFilter}
use Rattle.dv_query_check.specs.declared.resolved.ResolvedLink.{ResolvedLink}
use Rattle.dv_query_check.specs.declared.resolved.ResolvedOrder.{ResolvedOrder}
use Rattle.dv_query_check.specs.declared.resolved.ResolvedQuery.{ResolvedQuery}
use Rattle.dv_query_check.specs.Columns.{table_named, column_named}
use Rattle.dv_query_check.specs.Comparands.{operands_in}
use Rattle.dv_query_check.specs.ConditionFaults.{is_told_as}
use Rattle.dv_query_check.specs.Each.{each_of, if_given}
use Rattle.dv_query_check.specs.Links.{LinkAt, links_of}

-- the number of the column of a name, where there are a table and such a column
unfoldable pub column_number : Option Table → Name → Option ℕ
column_number None name = None
column_number (Some table) name = position (λ column. same_name column.name name) table.columns

-- the numbers of columns
unfoldable pub column_numbers : Option Table → List Name → Option (List ℕ)
column_numbers table names = each_of (column_number table) names

-- a source of a query: its number, and its table if that is there
pub record SourceAt : Type 0 where
  pub number : ℕ
  pub table : Option Table

-- a link as a source
abbrev pub link_source : LinkAt → SourceAt
link_source l = record { number = l.number; table = l.table }

-- the source whose column is named: the link whose rows are told under an alias, or without one another source
unfoldable pub source_meant : SourceAt → List LinkAt → Option Name → Option SourceAt
source_meant own links None = Some own
source_meant own links (Some alias) = option_map link_source (find (is_told_as alias) links)

-- a condition on the column of a number, where the values are some of its kind
unfoldable pub comparison : ℕ → Condition → ℕ → Column → Option ResolvedCondition
comparison source c number column =
    option_map (λ values. record { source = source; column = number; operator = c.operator; values = values })
    (operands_in c.operator column.kind c.values)

-- a condition on a column of a source
unfoldable pub condition_on : Condition → SourceAt → Option ResolvedCondition
condition_on c s = option_and_then (λ table. option_and_then (λ number. option_and_then (comparison s.number c number) (column_named table c.column)) (column_number (Some table) c.column)) s.table

-- a condition of a filter of a source, which may name some links
unfoldable pub resolved_condition : SourceAt → List LinkAt → Condition → Option ResolvedCondition
resolved_condition own links c = option_and_then (condition_on c) (source_meant own links c.link)

-- the conditions of a list
unfoldable pub resolved_conditions : SourceAt → List LinkAt → List Condition → Option (List ResolvedCondition)
resolved_conditions own links conditions = each_of (resolved_condition own links) conditions

-- a filter of its conditions and of the filters in it
unfoldable pub filter_made : Bool → Option (List ResolvedCondition) → Option (List ResolvedFilter) → Option ResolvedFilter
filter_made any conditions filters = option_and_then (λ cs. option_map (λ fs. roll-ResolvedFilter (record { any = any; conditions = cs; filters = fs })) filters) conditions

-- the same, where what each filter in it stands for is known
unfoldable pub resolve_step : SourceAt → List LinkAt → Filter-F (Option ResolvedFilter) → Option ResolvedFilter
resolve_step own links f = filter_made f.any (resolved_conditions own links f.conditions) (each_of (λ inner. inner) f.filters)

-- a filter of a source, whose conditions may name some links
unfoldable pub resolved_filter : SourceAt → List LinkAt → Filter → Option ResolvedFilter
resolved_filter own links = fold-Filter (Option ResolvedFilter) (resolve_step own links)

-- the filters of a list
unfoldable pub resolved_filters : SourceAt → List LinkAt → List Filter → Option (List ResolvedFilter)
resolved_filters own links filters = each_of (resolved_filter own links) filters

-- a link: the source that it stands under, how it is joined, its table, the columns that it joins by, its columns and its filter
unfoldable pub link_made : ℕ → Join → Option ℕ → Option ℕ → Option ℕ → Option (List ℕ) → Option (Option ResolvedFilter) → Option ResolvedLink
link_made outer join table from to columns filter =
    option_and_then (λ t. option_and_then (λ a. option_and_then (λ b. option_and_then (λ cs. option_map (λ f.
    record { outer = outer; table = t; from = a; to = b; join = join; columns = cs; filter = f }) filter) columns) to) from) table

-- a link; the conditions of its filter name no other
unfoldable pub resolved_link : Definition → LinkAt → Option ResolvedLink
resolved_link d l =
    link_made l.above l.join
    (table_of_bytes d (encode_utf8_all l.named))
    (column_number l.outer l.from)
    (column_number l.table l.to)
    (column_numbers l.table l.columns)
    (if_given (resolved_filter (link_source l) []) l.filter)

-- the links of a query
unfoldable pub resolved_links : Definition → List LinkAt → Option (List ResolvedLink)
resolved_links d links = each_of (resolved_link d) links

-- an order by a column of a source
unfoldable pub resolved_order : SourceAt → List LinkAt → Order → Option ResolvedOrder
resolved_order own links o =
    option_and_then (λ s. option_map (λ column. record { source = s.number; column = column; descending = o.descending }) (column_number s.table o.column))
    (source_meant own links o.link)

-- the orders of a query
unfoldable pub resolved_orders : SourceAt → List LinkAt → List Order → Option (List ResolvedOrder)
resolved_orders own links orders = each_of (resolved_order own links) orders

-- the query's own table as a source
abbrev pub base_source : Definition → Query → SourceAt
base_source d q = record { number = 0; table = table_named d q.table }

-- a query of its table's number, its columns, its filter, its links and its orders
unfoldable pub query_made : Option ℕ → Option (Option (List ℕ)) → Option (Option ResolvedFilter) → Option (List ResolvedLink) → Option (List ResolvedOrder) → Option ResolvedQuery
query_made table columns filter links orders =
    option_and_then (λ t. option_and_then (λ cs. option_and_then (λ f. option_and_then (λ ls. option_map (λ os.
    record { table = t; columns = cs; filter = f; links = ls; orders = os }) orders) links) filter) columns) table

-- a whole query
unfoldable pub resolved : Definition → Query → Option ResolvedQuery
resolved d q =
    let base = base_source d q in
    let links = links_of d q in
    query_made
    (table_of_bytes d (encode_utf8_all q.table))
    (if_given (column_numbers base.table) q.columns)
    (if_given (resolved_filter base links) q.filter)
    (resolved_links d links)
    (resolved_orders base links q.orders)
