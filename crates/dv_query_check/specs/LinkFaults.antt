-- A link's table is there, it joins by two columns of ids, its alias is a name of its own, and columns are asked only of a link whose rows are told.
use Rattle.std.specs.Prelude.{ℕ, Bool, false, not, ◌&&◌, List, take, length, nat_lt, codes, Option, Some, None, option_map, option_and_then, encode_utf8_all}
use Rattle.std.specs.List.{list_any}
use Rattle.std.specs.Option.{is_some, option_or, option_map_or}
use Rattle.dv_form.specs.Spellings.{is_name}
use Rattle.dv_schema.specs.First.{first}
use Rattle.dv_schema.specs.Names.{Name, same_name}
use Rattle.dv_query_check.specs.declared.fault.Fault.{Fault}
use Rattle.dv_query_check.specs.declared.fault.QueryKind.{QueryKind}
use Rattle.dv_query_check.specs.declared.fault.QueryKind.TheVariants as kind
use Rattle.dv_query_check.specs.declared.links.LinkFault.{LinkFault}
use Rattle.dv_query_check.specs.declared.links.LinkFault.TheVariants.{UnknownTable, BadFrom, BadTo, BadAlias, ColumnsGiven, UnknownColumn}
use Rattle.dv_query_check.specs.Columns.{has_reference, unknown_in}
use Rattle.dv_query_check.specs.Faults.{found_if}
use Rattle.dv_query_check.specs.Links.{LinkAt}
use Rattle.dv_query_check.specs.Places.{member, item}

-- whether a link has this alias
unfoldable pub has_alias : Name → LinkAt → Bool
has_alias alias l = option_map_or (λ own. same_name own alias) l.alias false

-- whether none of these links has the alias
unfoldable pub is_free : Name → List LinkAt → Bool
is_free alias earlier = not (list_any (has_alias alias) earlier)

-- whether columns of the link are asked for
unfoldable pub has_columns : LinkAt → Bool
has_columns l = nat_lt 0 (length l.columns)

-- the alias is a name that no earlier link has; it may be missing where no columns are asked for
unfoldable pub is_good_alias : List LinkAt → LinkAt → Option Name → Bool
is_good_alias earlier l (Some alias) = is_name (encode_utf8_all alias) && is_free alias earlier
is_good_alias earlier l None = not (has_columns l)

unfoldable pub has_good_alias : List LinkAt → LinkAt → Bool
has_good_alias earlier l = is_good_alias earlier l l.alias

-- the first of the link's columns that its table doesn't have
unfoldable pub unknown_column : LinkAt → Option LinkFault
unknown_column l = option_map UnknownColumn (option_and_then (λ table. unknown_in table l.columns) l.table)

-- columns are asked of a link whose rows aren't told, or one isn't there
unfoldable pub columns_fault : LinkAt → Option LinkFault
columns_fault l = option_or (found_if (l.hidden && has_columns l) ColumnsGiven) (unknown_column l)

-- what is wrong with a link after those before it
unfoldable pub link_fault : List LinkAt → LinkAt → Option LinkFault
link_fault earlier l =
    option_or (found_if (not (is_some l.table)) UnknownTable)
    (option_or (found_if (not (has_reference l.outer l.from)) BadFrom)
    (option_or (found_if (not (has_reference l.table l.to)) BadTo)
    (option_or (found_if (not (has_good_alias earlier l)) BadAlias)
    (columns_fault l))))

-- the place of a fault of the link at a place
unfoldable pub link_member : List ℕ → LinkFault → List ℕ
link_member link UnknownTable = member link (codes "table")
link_member link BadFrom = member link (codes "from")
link_member link BadTo = member link (codes "to")
link_member link BadAlias = member link (codes "alias")
link_member link ColumnsGiven = member link (codes "columns")
link_member link (UnknownColumn i) = item (member link (codes "columns")) i

-- the kind of a fault
unfoldable pub link_kind : LinkFault → QueryKind
link_kind UnknownTable = kind.Table
link_kind BadFrom = kind.Column
link_kind BadTo = kind.Column
link_kind BadAlias = kind.Alias
link_kind ColumnsGiven = kind.Columns
link_kind (UnknownColumn i) = kind.Column

-- a fault of the link at a place, as it is told
abbrev pub told_link : List ℕ → LinkFault → Fault
told_link link fault = record { place = link_member link fault; kind = link_kind fault }

-- what is wrong with the link of a number among the links
unfoldable pub fault_of_link : List LinkAt → ℕ → LinkAt → Option Fault
fault_of_link links i l = option_map (told_link l.place) (link_fault (take i links) l)

-- the first fault of the links
unfoldable pub first_link_fault : List LinkAt → Option Fault
first_link_fault links = first (fault_of_link links) links
