-- A fault of a query has a place, a path of the member names of the request, and a kind.
use Rattle.std.specs.Prelude.{◌≡◌, ℕ, List, codes, chars, Bool, if◌then◌else◌, Option, Some, None, option_map}
use Rattle.dv_query_check.specs.declared.fault.Fault.{Fault}
use Rattle.dv_query_check.specs.declared.fault.QueryFault.{QueryFault}
use Rattle.dv_query_check.specs.declared.fault.QueryFault.TheVariants.{BadQuery, OutOfMemory}
use Rattle.dv_query_check.specs.declared.fault.QueryKind.{QueryKind}
use Rattle.dv_query_check.specs.declared.fault.QueryKind.TheVariants.{Value, Limit, Column, Table, Alias, Columns, Operator, Count}

-- the word for a kind
unfoldable pub kind_word : QueryKind → List ℕ
kind_word Value = codes "value"
kind_word Limit = codes "limit"
kind_word Column = codes "column"
kind_word Table = codes "table"
kind_word Alias = codes "alias"
kind_word Columns = codes "columns"
kind_word Operator = codes "operator"
kind_word Count = codes "count"

-- a fault where the test holds
abbrev pub found_if : {A : Type 0} → Bool → A → Option A
found_if test fault = if test then Some fault else None

-- a fault as callers are told it
abbrev pub refusal_of : Fault → QueryFault
refusal_of fault = BadQuery (chars fault.place) fault.kind

-- a refusal tells the first fault; out of memory says nothing of the query
abbrev pub IsTold : Option Fault → QueryFault → Type 0
IsTold first (BadQuery part kind) = option_map refusal_of first ≡ Some (BadQuery part kind)
IsTold first OutOfMemory = Unit {0}
