-- A condition names a column of its filter's table or of a link whose rows are told; its operator suits the column, and takes its values.
use Rattle.std.specs.Prelude.{ℕ, Bool, not, ◌&&◌, List, [], length, codes, Option, Some, None, find, if◌then◌else◌, option_map, option_and_then}
use Rattle.std.specs.Option.{option_or}
use Rattle.dv_schema.specs.declared.table.Column.{Column}
use Rattle.dv_schema.specs.declared.table.Table.{Table}
use Rattle.dv_schema.specs.First.{first}
use Rattle.dv_schema.specs.Names.{Name}
use Rattle.dv_query.specs.declared.filter.Condition.{Condition}
use Rattle.dv_query_check.specs.declared.conditions.ConditionFault.{ConditionFault}
use Rattle.dv_query_check.specs.declared.conditions.ConditionFault.TheVariants.{UnknownLink, UnknownColumn, UnsuitedOperator, WrongCount, WrongValue}
use Rattle.dv_query_check.specs.declared.fault.Fault.{Fault}
use Rattle.dv_query_check.specs.declared.fault.QueryKind.{QueryKind}
use Rattle.dv_query_check.specs.declared.fault.QueryKind.TheVariants as kind
use Rattle.dv_query_check.specs.Columns.{column_named}
use Rattle.dv_query_check.specs.Faults.{found_if}
use Rattle.dv_query_check.specs.Filters.{FilterAt}
use Rattle.dv_query_check.specs.LinkFaults.{has_alias}
use Rattle.dv_query_check.specs.Links.{LinkAt}
use Rattle.dv_query_check.specs.Operands.{first_wrong}
use Rattle.dv_query_check.specs.Operators.{suits, takes}
use Rattle.dv_query_check.specs.Places.{member, item}

-- whether the rows of a link are told, under this alias
unfoldable pub is_told_as : Name → LinkAt → Bool
is_told_as alias l = not l.hidden && has_alias alias l

-- the table of the link whose rows are told under an alias
unfoldable pub table_aliased : List LinkAt → Name → Option Table
table_aliased links alias = option_and_then (λ l. l.table) (find (is_told_as alias) links)

-- the table whose column is named: that of the link, or without a link another one
unfoldable pub table_meant : Option Table → List LinkAt → Option Name → Option Table
table_meant own links None = own
table_meant own links (Some alias) = table_aliased links alias

-- the operator suits the column, then takes so many values, then each value
unfoldable pub comparison_fault : Column → Condition → Option ConditionFault
comparison_fault column c =
    option_or (found_if (not (suits c.operator column)) UnsuitedOperator)
    (option_or (found_if (not (takes c.operator (length c.values))) WrongCount)
    (option_map WrongValue (first_wrong c.operator column.kind c.values)))

-- what is wrong with a condition on a column, if it is there
unfoldable pub column_fault : Option Column → Condition → Option ConditionFault
column_fault None c = Some UnknownColumn
column_fault (Some column) c = comparison_fault column c

-- what is wrong with a condition on a column of a table, if it is there
unfoldable pub condition_fault : Option Table → Condition → Option ConditionFault
condition_fault None c = Some UnknownLink
condition_fault (Some table) c = column_fault (column_named table c.column) c

-- the links that conditions of a filter may name
abbrev pub links_named : List LinkAt → FilterAt → List LinkAt
links_named links f = if f.names_links then links else []

-- what is wrong with a condition of a filter
unfoldable pub condition_fault_in : List LinkAt → FilterAt → Condition → Option ConditionFault
condition_fault_in links f c = condition_fault (table_meant f.table (links_named links f) c.link) c

-- the place of a fault of the condition at a place
unfoldable pub condition_member : List ℕ → ConditionFault → List ℕ
condition_member condition UnknownLink = member condition (codes "link")
condition_member condition UnknownColumn = member condition (codes "column")
condition_member condition UnsuitedOperator = member condition (codes "is")
condition_member condition WrongCount = member condition (codes "values")
condition_member condition (WrongValue i) = item (member condition (codes "values")) i

-- the kind of a fault
unfoldable pub condition_kind : ConditionFault → QueryKind
condition_kind UnknownLink = kind.Alias
condition_kind UnknownColumn = kind.Column
condition_kind UnsuitedOperator = kind.Operator
condition_kind WrongCount = kind.Count
condition_kind (WrongValue i) = kind.Value

-- a fault of the condition of a number in the filter at a place, as it is told
abbrev pub told_condition : List ℕ → ℕ → ConditionFault → Fault
told_condition filter i fault = record { place = condition_member (item (member filter (codes "conditions")) i) fault; kind = condition_kind fault }

-- what is wrong with the condition of a number in a filter
unfoldable pub fault_of_condition : List LinkAt → FilterAt → ℕ → Condition → Option Fault
fault_of_condition links f i c = option_map (told_condition f.place i) (condition_fault_in links f c)

-- the first fault of the conditions of a filter
unfoldable pub filter_fault : List LinkAt → FilterAt → Option Fault
filter_fault links f = first (fault_of_condition links f) f.conditions

-- the first fault of the conditions of filters
unfoldable pub first_condition_fault : List LinkAt → List FilterAt → Option Fault
first_condition_fault links filters = first (λ i f. filter_fault links f) filters
