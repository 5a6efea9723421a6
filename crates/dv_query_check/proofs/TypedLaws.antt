-- A query without a fault is well typed.
use Rattle.std.proofs.Common.{◌≡◌, ℕ, ◌&&◌, true, false, not, List, length, slice_get, take, Option, Some, None, option_map, option_and_then, encode_utf8_all, refl, ap, ◌∙◌, subst}
use Rattle.std.specs.List.{list_any, find}
use Rattle.std.specs.Option.{option_or, is_some}
use Rattle.dv_form.specs.Spellings.{is_name}
use Rattle.dv_schema.specs.declared.definition.Definition.{Definition}
use Rattle.dv_schema.specs.declared.table.Column.{Column}
use Rattle.dv_schema.specs.declared.table.Table.{Table}
use Rattle.dv_schema.specs.Names.{Name}
use Rattle.dv_query.specs.declared.filter.Condition.{Condition}
use Rattle.dv_query.specs.declared.query.Order.{Order}
use Rattle.dv_query.specs.declared.query.Query.{Query}
use Rattle.dv_query_check.specs.declared.conditions.ConditionFault.TheVariants as condition
use Rattle.dv_query_check.specs.declared.links.LinkFault.TheVariants as link
use Rattle.dv_query_check.specs.declared.orders.OrderFault.TheVariants as order
use Rattle.dv_query_check.specs.declared.base.BaseFault.TheVariants as base
use Rattle.dv_query_check.specs.Accepted.{HasColumn, IsOwnAlias, IsAliasOf, IsAskedOf, IsTypedLink, IsTypedCondition, IsTypedOrder, IsTyped}
use Rattle.dv_query_check.specs.Base.{base_fault, told_base, first_base_fault}
use Rattle.dv_query_check.specs.Columns.{table_named, column_named, has_reference, unknown_in}
use Rattle.dv_query_check.specs.ConditionFaults.{is_told_as, table_aliased, table_meant, links_named, comparison_fault, column_fault, condition_fault, condition_fault_in, told_condition, fault_of_condition, filter_fault, first_condition_fault}
use Rattle.dv_query_check.specs.Faults.{found_if}
use Rattle.dv_query_check.specs.Filters.{FilterAt, filters_of}
use Rattle.dv_query_check.specs.LinkFaults.{has_alias, is_free, is_good_alias, has_good_alias, unknown_column, columns_fault, has_columns, link_fault, told_link, fault_of_link, first_link_fault}
use Rattle.dv_query_check.specs.Links.{LinkAt, links_of}
use Rattle.dv_query_check.specs.Operands.{is_operand, first_wrong}
use Rattle.dv_query_check.specs.Operators.{suits, takes, operands_of}
use Rattle.dv_query_check.specs.OrderFaults.{order_fault, told_order, fault_of_order, first_order_fault}
use Rattle.dv_query_check.specs.Parts.{first_part_fault}
use Rattle.dv_query_check.specs.Queries.{first_fault}
use Rattle.dv_query_check.proofs.AcceptedLaws.{or_left, or_right, map_none, if_none, holds, unless_none, and_left, and_right, and_fails, not_true, clash, has_some, none_at, fails_at, some_same, any_fails_at, found_at}

-- a column that is there
found : (o : Option Column) → is_some o ≡ true → (column : Column) × (o ≡ Some column)
found None e = absurd (cc)
found (Some column) e = (column, refl)

-- the table's columns that are asked for are there
has_each : (table : Table) (names : List Name) → unknown_in table names ≡ None → (k : ℕ) (name : Name) → slice_get names k ≡ Some name → (column : Column) × HasColumn (Some table) name column
unfolding unknown_in
has_each table names e k name at =
    let column = found (column_named table name) (holds (is_some (column_named table name)) (fails_at (λ n. not (is_some (column_named table n))) names k name e at)) in
    (column.0, record { own = table; is_own = refl; is_column = column.1 })

link_columns : (table : Option Table) (names : List Name) → is_some table ≡ true → option_and_then (λ t. unknown_in t names) table ≡ None → (k : ℕ) (name : Name) → slice_get names k ≡ Some name
    → (column : Column) × HasColumn table name column
link_columns None names there e k name at = absurd (cc)
link_columns (Some table) names there e k name at = has_each table names e k name at

-- a link with columns has an alias
alias_there : (earlier : List LinkAt) (l : LinkAt) (o : Option Name) → is_good_alias earlier l o ≡ true → has_columns l ≡ true → is_some o ≡ true
unfolding is_good_alias
alias_there earlier l None good asked = clash (has_columns l) good asked
alias_there earlier l (Some alias) good asked = refl

-- an alias is a name of its own
own_alias : (earlier : List LinkAt) (l : LinkAt) (o : Option Name) → is_good_alias earlier l o ≡ true → (alias : Name) → o ≡ Some alias → IsOwnAlias earlier alias
unfolding is_good_alias is_free
own_alias earlier l None good alias is = absurd (cc)
own_alias earlier l (Some a) good alias is = subst (IsOwnAlias earlier) (some_same a alias is) (record {
  name = and_left (is_name (encode_utf8_all a)) (not (list_any (has_alias a) earlier)) good;
  own = λ k other at. any_fails_at (has_alias a) earlier k other (not_true _ (and_right (is_name (encode_utf8_all a)) (not (list_any (has_alias a) earlier)) good)) at;
})

asked_of : (earlier : List LinkAt) (l : LinkAt) → has_good_alias earlier l ≡ true → (l.hidden && has_columns l) ≡ false → ((k : ℕ) (name : Name) → slice_get l.columns k ≡ Some name → (column : Column) × HasColumn l.table name column)
    → (k : ℕ) (name : Name) → slice_get l.columns k ≡ Some name → IsAskedOf l name
unfolding has_good_alias has_columns
asked_of earlier l good shown there k name at =
    let asked = has_some l.columns k name at in
    let column = there k name at in
    record { column = column.0; is_there = column.1; alias = alias_there earlier l l.alias good asked; told = and_fails l.hidden (has_columns l) shown asked }

typed_link : (earlier : List LinkAt) (l : LinkAt) → link_fault earlier l ≡ None → IsTypedLink earlier l
unfolding link_fault columns_fault unknown_column has_good_alias
typed_link earlier l e =
    let f1 = found_if (not (is_some l.table)) link.UnknownTable in
    let f2 = found_if (not (has_reference l.outer l.from)) link.BadFrom in
    let f3 = found_if (not (has_reference l.table l.to)) link.BadTo in
    let f4 = found_if (not (has_good_alias earlier l)) link.BadAlias in
    let f5 = found_if (l.hidden && has_columns l) link.ColumnsGiven in
    let f6 = option_map link.UnknownColumn (option_and_then (λ table. unknown_in table l.columns) l.table) in
    let r4 = option_or f4 (option_or f5 f6) in
    let r3 = option_or f3 r4 in
    let r2 = option_or f2 r3 in
    let e2 = or_right f1 r2 e in
    let e3 = or_right f2 r3 e2 in
    let e4 = or_right f3 r4 e3 in
    let e5 = or_right f4 (option_or f5 f6) e4 in
    let there = unless_none (is_some l.table) link.UnknownTable (or_left f1 r2 e) in
    let good = unless_none (has_good_alias earlier l) link.BadAlias (or_left f4 (option_or f5 f6) e4) in
    record {
      table = there;
      from = unless_none (has_reference l.outer l.from) link.BadFrom (or_left f2 r3 e2);
      to = unless_none (has_reference l.table l.to) link.BadTo (or_left f3 r4 e3);
      alias = own_alias earlier l l.alias good;
      columns = asked_of earlier l good (if_none (l.hidden && has_columns l) link.ColumnsGiven (or_left f5 f6 e5))
          (link_columns l.table l.columns there (map_none link.UnknownColumn (option_and_then (λ table. unknown_in table l.columns) l.table) (or_right f5 f6 e5)));
    }

-- the alias of a link that is found
alias_found : (links : List LinkAt) (alias : Name) (table : Table) → table_aliased links alias ≡ Some table → IsAliasOf links alias
unfolding table_aliased is_told_as
alias_found links alias table e = go (find (is_told_as alias) links) refl e
  where
    go : (o : Option LinkAt) → find (is_told_as alias) links ≡ o → option_and_then (λ (l : LinkAt). l.table) o ≡ Some table → IsAliasOf links alias
    go None is f = absurd (cc)
    go (Some l) is f =
        let at = found_at (is_told_as alias) links l is in
        record { place = at.0; link = l; is_there = at.1; told = not_true l.hidden (and_left (not l.hidden) (has_alias alias l) at.2); has = and_right (not l.hidden) (has_alias alias l) at.2 }

-- the alias of the link that is named
alias_meant : (own : Option Table) (links : List LinkAt) (link : Option Name) (table : Table) → table_meant own links link ≡ Some table → (alias : Name) → link ≡ Some alias → IsAliasOf links alias
unfolding table_meant
alias_meant own links None table e alias is = absurd (cc)
alias_meant own links (Some a) table e alias is = subst (IsAliasOf links) (some_same a alias is) (alias_found links a table e)

typed_comparison : (own : Option Table) (links : List LinkAt) (c : Condition) (table : Table) (column : Column) → table_meant own links c.link ≡ Some table → column_named table c.column ≡ Some column → comparison_fault column c ≡ None
    → IsTypedCondition own links c
unfolding comparison_fault first_wrong
typed_comparison own links c table column is at e =
    let e1 = or_right _ _ e in
    let e2 = or_right _ _ e1 in
    record {
      link = alias_meant own links c.link table is;
      column = column;
      is_there = record { own = table; is_own = is; is_column = at };
      suited = unless_none (suits c.operator column) condition.UnsuitedOperator (or_left _ _ e);
      taken = unless_none (takes c.operator (length c.values)) condition.WrongCount (or_left _ _ e1);
      values = λ k value read. holds (is_operand (operands_of c.operator) column.kind value) (fails_at (λ v. not (is_operand (operands_of c.operator) column.kind v)) c.values k value (map_none condition.WrongValue _ e2) read);
    }

typed_column : (own : Option Table) (links : List LinkAt) (c : Condition) (table : Table) (o : Option Column) → table_meant own links c.link ≡ Some table → column_named table c.column ≡ o → column_fault o c ≡ None → IsTypedCondition own links c
unfolding column_fault
typed_column own links c table None is at e = absurd (cc)
typed_column own links c table (Some column) is at e = typed_comparison own links c table column is at e

typed_condition : (own : Option Table) (links : List LinkAt) (c : Condition) (t : Option Table) → table_meant own links c.link ≡ t → condition_fault t c ≡ None → IsTypedCondition own links c
unfolding condition_fault
typed_condition own links c None is e = absurd (cc)
typed_condition own links c (Some table) is e = typed_column own links c table (column_named table c.column) is refl e

typed_order : (own : Option Table) (links : List LinkAt) (o : Order) (t : Option Table) → table_meant own links o.link ≡ t → order_fault t o ≡ None → IsTypedOrder own links o
unfolding order_fault
typed_order own links o None is e = absurd (cc)
typed_order own links o (Some table) is e =
    let column = found (column_named table o.column) (unless_none (is_some (column_named table o.column)) order.UnknownColumn e) in
    record { link = alias_meant own links o.link table is; column = column.0; is_there = record { own = table; is_own = is; is_column = column.1 } }

typed_base : (table : Option Table) (columns : Option (List Name)) → base_fault table columns ≡ None → is_some table ≡ true
unfolding base_fault
typed_base None columns e = absurd (cc)
typed_base (Some table) columns e = refl

typed_columns : (table : Option Table) (columns : Option (List Name)) → base_fault table columns ≡ None → (names : List Name) → columns ≡ Some names → (k : ℕ) (name : Name) → slice_get names k ≡ Some name
    → (column : Column) × HasColumn table name column
unfolding base_fault
typed_columns None columns e names is k name at = absurd (cc)
typed_columns (Some table) None e names is k name at = absurd (cc)
typed_columns (Some table) (Some given) e names is k name at =
    has_each table given (map_none base.UnknownColumn (unknown_in table given) e) k name (ap (λ ns. slice_get ns k) (some_same given names is) ∙ at)

typed_links : (links : List LinkAt) → first_link_fault links ≡ None → (i : ℕ) (l : LinkAt) → slice_get links i ≡ Some l → IsTypedLink (take i links) l
unfolding first_link_fault fault_of_link
typed_links links e i l at = typed_link (take i links) l (map_none (told_link l.place) (link_fault (take i links) l) (none_at (fault_of_link links) links i l e at))

typed_conditions : (links : List LinkAt) (filters : List FilterAt) → first_condition_fault links filters ≡ None → (i k : ℕ) (f : FilterAt) (c : Condition) → slice_get filters i ≡ Some f → slice_get f.conditions k ≡ Some c
    → IsTypedCondition f.table (links_named links f) c
unfolding first_condition_fault filter_fault fault_of_condition condition_fault_in
typed_conditions links filters e i k f c at is =
    let of_filter = none_at (λ j g. filter_fault links g) filters i f e at in
    let of_condition = none_at (fault_of_condition links f) f.conditions k c of_filter is in
    typed_condition f.table (links_named links f) c (table_meant f.table (links_named links f) c.link) refl (map_none (told_condition f.place k) (condition_fault_in links f c) of_condition)

typed_orders : (table : Option Table) (links : List LinkAt) (orders : List Order) → first_order_fault table links orders ≡ None → (i : ℕ) (o : Order) → slice_get orders i ≡ Some o
    → IsTypedOrder table links o
unfolding first_order_fault fault_of_order
typed_orders table links orders e i o at =
    typed_order table links o (table_meant table links o.link) refl (map_none (told_order i) (order_fault (table_meant table links o.link) o) (none_at (fault_of_order table links) orders i o e at))

-- a query without a fault is well typed
pub typed : (d : Definition) (q : Query) → first_fault d q ≡ None → IsTyped d q
unfolding first_fault first_base_fault
typed d q e =
    let table = table_named d q.table in
    let links = links_of d q in
    let filters = filters_of table q.filter links in
    let f1 = first_part_fault q links filters in
    let f2 = option_map told_base (base_fault table q.columns) in
    let f3 = first_link_fault links in
    let f4 = first_condition_fault links filters in
    let f5 = first_order_fault table links q.orders in
    let e2 = or_right f1 (option_or f2 (option_or f3 (option_or f4 f5))) e in
    let e3 = or_right f2 (option_or f3 (option_or f4 f5)) e2 in
    let e4 = or_right f3 (option_or f4 f5) e3 in
    let fine = map_none told_base (base_fault table q.columns) (or_left f2 (option_or f3 (option_or f4 f5)) e2) in
    record {
      table = typed_base table q.columns fine;
      columns = typed_columns table q.columns fine;
      links = typed_links links (or_left f3 (option_or f4 f5) e3);
      conditions = typed_conditions links filters (or_left f4 f5 e4);
      orders = typed_orders table links q.orders (or_right f4 f5 e4);
    }
