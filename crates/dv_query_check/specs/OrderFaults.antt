-- An order names a column of the query's own table or of a link whose rows are told.
use Rattle.std.specs.Prelude.{ℕ, not, List, codes, Option, Some, None, option_map}
use Rattle.std.specs.Option.{is_some}
use Rattle.dv_schema.specs.declared.table.Table.{Table}
use Rattle.dv_schema.specs.First.{first}
use Rattle.dv_query.specs.declared.query.Order.{Order}
use Rattle.dv_query_check.specs.declared.fault.Fault.{Fault}
use Rattle.dv_query_check.specs.declared.fault.QueryKind.{QueryKind}
use Rattle.dv_query_check.specs.declared.fault.QueryKind.TheVariants as kind
use Rattle.dv_query_check.specs.declared.orders.OrderFault.{OrderFault}
use Rattle.dv_query_check.specs.declared.orders.OrderFault.TheVariants.{UnknownLink, UnknownColumn}
use Rattle.dv_query_check.specs.Columns.{column_named}
use Rattle.dv_query_check.specs.ConditionFaults.{table_meant}
use Rattle.dv_query_check.specs.Faults.{found_if}
use Rattle.dv_query_check.specs.Links.{LinkAt}
use Rattle.dv_query_check.specs.Places.{member, item}

-- what is wrong with an order by a column of a table, if it is there
unfoldable pub order_fault : Option Table → Order → Option OrderFault
order_fault None o = Some UnknownLink
order_fault (Some table) o = found_if (not (is_some (column_named table o.column))) UnknownColumn

-- the member that is at fault
unfoldable pub order_member : OrderFault → List ℕ
order_member UnknownLink = codes "link"
order_member UnknownColumn = codes "column"

-- the kind of a fault
unfoldable pub order_kind : OrderFault → QueryKind
order_kind UnknownLink = kind.Alias
order_kind UnknownColumn = kind.Column

-- a fault of the order of a number, as it is told
abbrev pub told_order : ℕ → OrderFault → Fault
told_order i fault = record { place = member (item (codes "orders") i) (order_member fault); kind = order_kind fault }

-- what is wrong with the order of a number
unfoldable pub fault_of_order : Option Table → List LinkAt → ℕ → Order → Option Fault
fault_of_order base links i o = option_map (told_order i) (order_fault (table_meant base links o.link) o)

-- the first fault of the orders
unfoldable pub first_order_fault : Option Table → List LinkAt → List Order → Option Fault
first_order_fault base links orders = first (fault_of_order base links) orders
