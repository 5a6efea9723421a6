-- The orders of the keys, and how each is made.
use Rattle.std.specs.Prelude.{ℕ, Bool}
use Rattle.std.specs.declared.cmp.Ordering.{Ordering}
use Rattle.std.specs.Ordering.{is_eq}
use Rattle.dv_value.specs.declared.id.Id.{Id}
use Rattle.dv_store.specs.declared.keys.RowKey.{RowKey}
use Rattle.dv_store.specs.declared.keys.GrantKey.{GrantKey}
use Rattle.dv_store.specs.declared.keys.DirtyKey.{DirtyKey}
use Rattle.dv_store.specs.declared.keys.Place.{Place}
use Rattle.dv_store.specs.declared.keys.Place.TheVariants as place
use Rattle.dv_store.specs.declared.keys.By.TheVariants as by
use Rattle.dv_store.specs.declared.keys.Listing.{Listing}
use Rattle.dv_store.specs.declared.keys.Entry.{Entry}
use Rattle.dv_store.specs.declared.keys.Key.{Key}
use Rattle.dv_store.specs.declared.keys.Key.TheVariants.{At, In}
use Rattle.dv_store.specs.contracts.keys.RowKeyOrd.TheImpl as row_order
use Rattle.dv_store.specs.contracts.keys.GrantKeyOrd.TheImpl as grant_order
use Rattle.dv_store.specs.contracts.keys.DirtyKeyOrd.TheImpl as dirty_order
use Rattle.dv_store.specs.contracts.keys.PlaceOrd.TheImpl as place_order
use Rattle.dv_store.specs.contracts.keys.ListingOrd.TheImpl as list_order
use Rattle.dv_store.specs.contracts.keys.EntryOrd.TheImpl as entry_order
use Rattle.dv_store.specs.contracts.keys.KeyOrd.TheImpl as key_order

-- rows by table, then id
abbrev pub row_cmp : RowKey → RowKey → Ordering
row_cmp = row_order.ghosts.cmp

-- grants by row, then principal
abbrev pub grant_cmp : GrantKey → GrantKey → Ordering
grant_cmp = grant_order.ghosts.cmp

-- dirty rollups by row, then column
abbrev pub dirty_cmp : DirtyKey → DirtyKey → Ordering
dirty_cmp = dirty_order.ghosts.cmp

-- places by kind, then by what the kind has
abbrev pub place_cmp : Place → Place → Ordering
place_cmp = place_order.ghosts.cmp

-- lists by table, then by what they list, then by whom
abbrev pub list_cmp : Listing → Listing → Ordering
list_cmp = list_order.ghosts.cmp

-- rows in lists by list, then id
abbrev pub entry_cmp : Entry → Entry → Ordering
entry_cmp = entry_order.ghosts.cmp

-- places of the world, then lists
abbrev pub key_cmp : Key → Key → Ordering
key_cmp = key_order.ghosts.cmp

-- the place of a row
abbrev pub row_key : ℕ → Id → RowKey
row_key table id = record { table = table; id = id }

-- the place of a grant
abbrev pub grant_key : ℕ → Id → Id → GrantKey
grant_key table id principal = record { row = row_key table id; principal = principal }

-- whether two places are one row's
abbrev pub is_row : RowKey → RowKey → Bool
is_row a b = is_eq (row_cmp a b)

-- the cells
abbrev pub at_row : RowKey → Key
at_row key = At (place.Row key)

abbrev pub at_grant : GrantKey → Key
at_grant key = At (place.Grant key)

abbrev pub at_removal : RowKey → Key
at_removal key = At (place.Removal key)

abbrev pub at_dirty : DirtyKey → Key
at_dirty key = At (place.Dirty key)

abbrev pub at_counters : Key
at_counters = At place.Counters

-- the list of the rows of a table that name an id at a place
abbrev pub named_list : ℕ → ℕ → Id → Listing
named_list table at of = record { table = table; by = by.Place at; of = of }

-- the list of the rows of a table on which an id has a grant
abbrev pub shared_list : ℕ → Id → Listing
shared_list table principal = record { table = table; by = by.Grant; of = principal }

abbrev pub in_list : Listing → Id → Key
in_list list id = In (record { list = list; id = id })
