-- The part of the answer that is asked for, and how many links, conditions and orders a query may have.
use Rattle.std.specs.Prelude.{ℕ, ℤ, pos, Bool, ◌&&◌, not, List, length, codes, int_le, nat_lt, Option, None, option_map}
use Rattle.std.specs.Option.{option_or}
use Rattle.dv_query.specs.declared.query.Part.{Part}
use Rattle.dv_query.specs.declared.query.Part.TheVariants.{Top, Page}
use Rattle.dv_query.specs.declared.query.PageStart.{PageStart}
use Rattle.dv_query.specs.declared.query.PageStart.TheVariants.{Number, Cookie}
use Rattle.dv_query.specs.declared.query.Query.{Query}
use Rattle.dv_query_check.specs.declared.fault.Fault.{Fault}
use Rattle.dv_query_check.specs.declared.fault.QueryKind.{QueryKind}
use Rattle.dv_query_check.specs.declared.fault.QueryKind.TheVariants.{Value, Limit}
use Rattle.dv_query_check.specs.declared.part.PartFault.{PartFault}
use Rattle.dv_query_check.specs.declared.part.PartFault.TheVariants.{BadTop, BadSize, BadNumber, TotalOverLinks, TooManyLinks, TooManyConditions, TooManyOrders}
use Rattle.dv_query_check.specs.Faults.{found_if}
use Rattle.dv_query_check.specs.Filters.{FilterAt, has_more_conditions}
use Rattle.dv_query_check.specs.Links.{LinkAt}

-- the most rows that are asked for at once
abbrev pub most_rows : ℤ
most_rows = pos 5000

-- the last page that is asked for by its number
abbrev pub last_page : ℤ
last_page = pos 1000000

-- the most links, conditions and orders of a query
abbrev pub most_links : ℕ
most_links = 10

abbrev pub most_conditions : ℕ
most_conditions = 200

abbrev pub most_orders : ℕ
most_orders = 10

-- a number from 1 to another
unfoldable pub is_from_1_to : ℤ → ℤ → Bool
is_from_1_to most n = int_le (pos 1) n && int_le n most

-- a page by its number has one of those
unfoldable pub start_fault : PageStart → Option PartFault
start_fault (Number n) = found_if (not (is_from_1_to last_page n)) BadNumber
start_fault (Cookie cookie) = None

-- the size of a page, where it begins, and a total, which can't be had over links
unfoldable pub page_fault : ℤ → PageStart → Bool → Option PartFault
page_fault size from total_over_links =
    option_or (found_if (not (is_from_1_to most_rows size)) BadSize)
    (option_or (start_fault from)
    (found_if total_over_links TotalOverLinks))

-- the first rows, or a page
unfoldable pub part_fault : Part → Bool → Option PartFault
part_fault (Top n) has_links = found_if (not (is_from_1_to most_rows n)) BadTop
part_fault (Page size from total) has_links = page_fault size from (total && has_links)

-- the number of links, of conditions and of orders
unfoldable pub limit_fault : List LinkAt → List FilterAt → ℕ → Option PartFault
limit_fault links filters orders =
    option_or (found_if (nat_lt most_links (length links)) TooManyLinks)
    (option_or (found_if (has_more_conditions filters most_conditions) TooManyConditions)
    (found_if (nat_lt most_orders orders) TooManyOrders))

-- the place of a fault
unfoldable pub part_place : PartFault → List ℕ
part_place BadTop = codes "top"
part_place BadSize = codes "page.size"
part_place BadNumber = codes "page.number"
part_place TotalOverLinks = codes "page.total"
part_place TooManyLinks = codes "links"
part_place TooManyConditions = codes "filter"
part_place TooManyOrders = codes "orders"

-- the kind of a fault
unfoldable pub part_kind : PartFault → QueryKind
part_kind BadTop = Value
part_kind BadSize = Value
part_kind BadNumber = Value
part_kind TotalOverLinks = Value
part_kind TooManyLinks = Limit
part_kind TooManyConditions = Limit
part_kind TooManyOrders = Limit

-- a fault as it is told
abbrev pub told_part : PartFault → Fault
told_part fault = record { place = part_place fault; kind = part_kind fault }

-- the first fault of the part, or else of the numbers
unfoldable pub first_part_fault : Query → List LinkAt → List FilterAt → Option Fault
first_part_fault q links filters =
    option_map told_part
    (option_or (part_fault q.part (nat_lt 0 (length links)))
    (limit_fault links filters (length q.orders)))
