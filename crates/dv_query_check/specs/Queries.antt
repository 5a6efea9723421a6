-- A query has no fault, or a first one: of the part that is asked for and the number of links, conditions and orders; of the query's own table and columns; of the links; of the conditions; of the orders.
use Rattle.std.specs.Prelude.{Option}
use Rattle.std.specs.Option.{option_or}
use Rattle.dv_schema.specs.declared.definition.Definition.{Definition}
use Rattle.dv_query.specs.declared.query.Query.{Query}
use Rattle.dv_query_check.specs.declared.fault.Fault.{Fault}
use Rattle.dv_query_check.specs.Base.{first_base_fault}
use Rattle.dv_query_check.specs.Columns.{table_named}
use Rattle.dv_query_check.specs.ConditionFaults.{first_condition_fault}
use Rattle.dv_query_check.specs.Filters.{filters_of}
use Rattle.dv_query_check.specs.LinkFaults.{first_link_fault}
use Rattle.dv_query_check.specs.Links.{links_of}
use Rattle.dv_query_check.specs.OrderFaults.{first_order_fault}
use Rattle.dv_query_check.specs.Parts.{first_part_fault}

-- the first fault of a query on the tables of a definition
unfoldable pub first_fault : Definition → Query → Option Fault
first_fault d q =
    let base = table_named d q.table in
    let links = links_of d q in
    let filters = filters_of base q.filter links in
    option_or (first_part_fault q links filters)
    (option_or (first_base_fault base q.columns)
    (option_or (first_link_fault links)
    (option_or (first_condition_fault links filters)
    (first_order_fault base links q.orders))))
