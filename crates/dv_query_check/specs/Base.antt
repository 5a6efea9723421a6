-- A query's own table is there, and has the columns that are asked for.
use Rattle.std.specs.Prelude.{ℕ, List, codes, Option, Some, None, option_map}
use Rattle.dv_schema.specs.declared.table.Table.{Table}
use Rattle.dv_schema.specs.Names.{Name}
use Rattle.dv_query_check.specs.declared.base.BaseFault.{BaseFault}
use Rattle.dv_query_check.specs.declared.base.BaseFault.TheVariants.{UnknownTable, UnknownColumn}
use Rattle.dv_query_check.specs.declared.fault.Fault.{Fault}
use Rattle.dv_query_check.specs.declared.fault.QueryKind.{QueryKind}
use Rattle.dv_query_check.specs.declared.fault.QueryKind.TheVariants.{Table as TableKind, Column as ColumnKind}
use Rattle.dv_query_check.specs.Columns.{unknown_in}
use Rattle.dv_query_check.specs.Places.{item}

-- what is wrong with the table, or with the columns that are asked for
unfoldable pub base_fault : Option Table → Option (List Name) → Option BaseFault
base_fault None columns = Some UnknownTable
base_fault (Some table) None = None
base_fault (Some table) (Some names) = option_map UnknownColumn (unknown_in table names)

-- the place of a fault
unfoldable pub base_place : BaseFault → List ℕ
base_place UnknownTable = codes "table"
base_place (UnknownColumn i) = item (codes "columns") i

-- the kind of a fault
unfoldable pub base_kind : BaseFault → QueryKind
base_kind UnknownTable = TableKind
base_kind (UnknownColumn i) = ColumnKind

-- a fault as it is told
abbrev pub told_base : BaseFault → Fault
told_base fault = record { place = base_place fault; kind = base_kind fault }

-- the fault of the table or its columns
unfoldable pub first_base_fault : Option Table → Option (List Name) → Option Fault
first_base_fault base columns = option_map told_base (base_fault base columns)
