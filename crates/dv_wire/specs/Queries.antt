-- The query that an object without a fault is. What is missing has its default: all columns, filters that hold of every row, inner links, ascending orders, the first page of 5,000 rows.
use Rattle.std.specs.Prelude.{ℕ, ℤ, pos, List, false, Option, Some, None, map, option_map, option_and_then, unwrap_or, codes}
use Rattle.serde_json.specs.Data.{Data}
use Rattle.serde_json.specs.Find.{get}
use Rattle.dv_form.specs.Members.{at, says, names_of, flag_of, integer_of, text_of}
use Rattle.dv_query.specs.Words.{operator_of, join_of}
use Rattle.dv_query.specs.declared.filter.Condition.{Condition}
use Rattle.dv_query.specs.declared.filter.Filter.{Filter}
use Rattle.dv_query.specs.declared.filter.Filter.TheViews.{roll-Filter}
use Rattle.dv_query.specs.declared.link.Join.{Join}
use Rattle.dv_query.specs.declared.link.Join.TheVariants.{Inner}
use Rattle.dv_query.specs.declared.link.Link.{Link}
use Rattle.dv_query.specs.declared.link.Link.TheViews.{roll-Link}
use Rattle.dv_query.specs.declared.operator.Operator.{Operator}
use Rattle.dv_query.specs.declared.operator.Operator.TheVariants.{Eq}
use Rattle.dv_query.specs.declared.query.Order.{Order}
use Rattle.dv_query.specs.declared.query.Part.{Part}
use Rattle.dv_query.specs.declared.query.Part.TheVariants.{Top, Page}
use Rattle.dv_query.specs.declared.query.PageStart.{PageStart}
use Rattle.dv_query.specs.declared.query.PageStart.TheVariants.{Number, Cookie}
use Rattle.dv_query.specs.declared.query.Query.{Query}
use Rattle.dv_wire.specs.Deep.{deep}
use Rattle.dv_wire.specs.Members.{str_at, integer_or, list_at, raws_at}

-- how many rows a page has, where the request doesn't say
abbrev pub page_size : ℤ
page_size = pos 5000

-- the operator and the way to join that the words say
unfoldable pub operator_at : Data → Operator
operator_at d = unwrap_or (option_and_then operator_of (str_at (codes "is") d)) Eq

unfoldable pub join_at : Data → Join
join_at d = unwrap_or (option_and_then join_of (str_at (codes "join") d)) Inner

-- a condition
unfoldable pub condition_of : Data → Condition
condition_of d = record { column = text_of (at "column" d); link = option_map text_of (get (codes "link") d); operator = operator_at d; values = raws_at (codes "values") d }

-- a filter, given those in it
unfoldable pub filter_step : Data → (List ℕ → List Filter) → Filter
filter_step d inner = roll-Filter (record { any = says "or" (at "op" d); conditions = map condition_of (list_at (codes "conditions") d); filters = inner (codes "filters") })

unfoldable pub filter_of : Data → Filter
filter_of d = deep filter_step d

-- the filter under `filter`, where there is one
unfoldable pub filter_at : Data → Option Filter
filter_at d = option_map filter_of (get (codes "filter") d)

-- a link, given those under it
unfoldable pub link_step : Data → (List ℕ → List Link) → Link
link_step d inner = roll-Link (record {
  table = text_of (at "table" d);
  from = text_of (at "from" d);
  to = text_of (at "to" d);
  join = join_at d;
  alias = option_map text_of (get (codes "alias") d);
  columns = names_of (at "columns" d);
  filter = filter_at d;
  links = inner (codes "links");
})

unfoldable pub link_of : Data → Link
link_of d = deep link_step d

-- an order
unfoldable pub order_of : Data → Order
order_of d = record { column = text_of (at "column" d); link = option_map text_of (get (codes "link") d); descending = flag_of (at "desc" d) }

-- where a page begins, by its cookie and its number
unfoldable pub start_said : Option Data → Option Data → PageStart
start_said (Some cookie) number = Cookie (text_of cookie)
start_said None number = Number (unwrap_or (option_map integer_of number) (pos 1))

-- a page
unfoldable pub page_of : Data → Part
page_of d = Page (integer_or page_size (codes "size") d) (start_said (get (codes "cookie") d) (get (codes "number") d)) (flag_of (at "total" d))

-- the part that is asked for, by the top and the page
unfoldable pub part_said : Option Data → Option Data → Part
part_said (Some top) page = Top (integer_of top)
part_said None (Some page) = page_of page
part_said None None = Page page_size (Number (pos 1)) false

-- a query
unfoldable pub query_of : Data → Query
query_of d = record {
  table = text_of (at "table" d);
  columns = option_map names_of (get (codes "columns") d);
  filter = filter_at d;
  links = map link_of (list_at (codes "links") d);
  orders = map order_of (list_at (codes "orders") d);
  part = part_said (get (codes "top") d) (get (codes "page") d);
}
