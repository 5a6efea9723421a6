-- What an accepted query promises: each table, column and alias that it names is there, each link that is named is one whose rows are told, and each value is one that its operator takes on its column.
use Rattle.std.specs.Prelude.{◌≡◌, ℕ, false, true, List, length, take, Option, Some, slice_get, encode_utf8_all}
use Rattle.std.specs.Option.{is_some}
use Rattle.dv_value.specs.declared.raw.Raw.{Raw}
use Rattle.dv_form.specs.Spellings.{is_name}
use Rattle.dv_schema.specs.declared.definition.Definition.{Definition}
use Rattle.dv_schema.specs.declared.table.Column.{Column}
use Rattle.dv_schema.specs.declared.table.Table.{Table}
use Rattle.dv_schema.specs.Names.{Name}
use Rattle.dv_query.specs.declared.filter.Condition.{Condition}
use Rattle.dv_query.specs.declared.query.Order.{Order}
use Rattle.dv_query.specs.declared.query.Query.{Query}
use Rattle.dv_query_check.specs.Columns.{table_named, column_named, has_reference}
use Rattle.dv_query_check.specs.ConditionFaults.{table_meant, links_named}
use Rattle.dv_query_check.specs.Filters.{FilterAt, filters_of}
use Rattle.dv_query_check.specs.LinkFaults.{has_alias}
use Rattle.dv_query_check.specs.Links.{LinkAt, links_of}
use Rattle.dv_query_check.specs.Operands.{is_operand}
use Rattle.dv_query_check.specs.Operators.{suits, takes, operands_of}

-- the table is there, and has the column
pub record HasColumn (table : Option Table) (name : Name) (column : Column) : Type 0 where
  pub own : Table
  pub is_own : table ≡ Some own
  pub is_column : column_named own name ≡ Some column

-- the alias is a name that no earlier link has
pub record IsOwnAlias (earlier : List LinkAt) (alias : Name) : Type 0 where
  pub name : is_name (encode_utf8_all alias) ≡ true
  pub own : (k : ℕ) (other : LinkAt) → slice_get earlier k ≡ Some other → has_alias alias other ≡ false

-- one of the links has the alias, and its rows are told
pub record IsAliasOf (links : List LinkAt) (alias : Name) : Type 0 where
  pub place : ℕ
  pub link : LinkAt
  pub is_there : slice_get links place ≡ Some link
  pub told : link.hidden ≡ false
  pub has : has_alias alias link ≡ true

-- a column that is asked of a link is there, the link has an alias, and its rows are told
pub record IsAskedOf (l : LinkAt) (name : Name) : Type 0 where
  pub column : Column
  pub is_there : HasColumn l.table name column
  pub alias : is_some l.alias ≡ true
  pub told : l.hidden ≡ false

-- the link's table is there, it joins by columns of ids, it has an alias of its own or none, and its table has the columns that are asked for
pub record IsTypedLink (earlier : List LinkAt) (l : LinkAt) : Type 0 where
  pub table : is_some l.table ≡ true
  pub from : has_reference l.outer l.from ≡ true
  pub to : has_reference l.table l.to ≡ true
  pub alias : (alias : Name) → l.alias ≡ Some alias → IsOwnAlias earlier alias
  pub columns : (k : ℕ) (name : Name) → slice_get l.columns k ≡ Some name → IsAskedOf l name

-- the condition's link and column are there, its operator suits the column and takes its values, each of the column's kind
pub record IsTypedCondition (table : Option Table) (links : List LinkAt) (c : Condition) : Type 0 where
  pub link : (alias : Name) → c.link ≡ Some alias → IsAliasOf links alias
  pub column : Column
  pub is_there : HasColumn (table_meant table links c.link) c.column column
  pub suited : suits c.operator column ≡ true
  pub taken : takes c.operator (length c.values) ≡ true
  pub values : (k : ℕ) (value : Raw) → slice_get c.values k ≡ Some value → is_operand (operands_of c.operator) column.kind value ≡ true

-- the order's link and column are there
pub record IsTypedOrder (table : Option Table) (links : List LinkAt) (o : Order) : Type 0 where
  pub link : (alias : Name) → o.link ≡ Some alias → IsAliasOf links alias
  pub column : Column
  pub is_there : HasColumn (table_meant table links o.link) o.column column

-- every part of the query is so; a condition of a link's filter names no link
pub record IsTyped (d : Definition) (q : Query) : Type 0 where
  pub table : is_some (table_named d q.table) ≡ true
  pub columns : (names : List Name) → q.columns ≡ Some names → (k : ℕ) (name : Name) → slice_get names k ≡ Some name → (column : Column) × HasColumn (table_named d q.table) name column
  pub links : (i : ℕ) (l : LinkAt) → slice_get (links_of d q) i ≡ Some l → IsTypedLink (take i (links_of d q)) l
  pub conditions : (i k : ℕ) (f : FilterAt) (c : Condition) → slice_get (filters_of (table_named d q.table) q.filter (links_of d q)) i ≡ Some f → slice_get f.conditions k ≡ Some c
      → IsTypedCondition f.table (links_named (links_of d q) f) c
  pub orders : (i : ℕ) (o : Order) → slice_get q.orders i ≡ Some o → IsTypedOrder (table_named d q.table) (links_of d q) o
