-- Where the cells of a kind begin, and what is read of their keys.
use Rattle.std.specs.Prelude.{ℕ, Option, None, Some, cond, ◌==◌}
use Rattle.std.specs.Ordering.{is_eq}
use Rattle.std.specs.declared.ops.Bound.{Bound}
use Rattle.std.specs.declared.ops.Bound.TheVariants.{Included, Excluded}
use Rattle.dv_value.specs.declared.id.Id.{Id}
use Rattle.dv_store.specs.declared.keys.RowKey.{RowKey}
use Rattle.dv_store.specs.declared.keys.DirtyKey.{DirtyKey}
use Rattle.dv_store.specs.declared.keys.Listing.{Listing}
use Rattle.dv_store.specs.declared.keys.Place.TheVariants.{Row, Grant, Removal, Dirty}
use Rattle.dv_store.specs.declared.keys.Key.{Key}
use Rattle.dv_store.specs.declared.keys.Key.TheVariants.{At, In}
use Rattle.dv_store.specs.Keys.{row_cmp, list_cmp}

-- the least id
abbrev pub least_id : Id
least_id = record { 0 = 0 }

-- where the keys made of ids begin past an id
abbrev pub from_id : (Id → Key) → Option Id → Bound Key
from_id make None = Included (make least_id)
from_id make (Some after) = Excluded (make after)

abbrev pub least_row : RowKey
least_row = record { table = 0; id = least_id }

abbrev pub from_dirty : Option DirtyKey → Bound Key
from_dirty None = Included (At (Dirty (record { row = least_row; column = 0 })))
from_dirty (Some after) = Excluded (At (Dirty after))

abbrev pub from_removal : Option RowKey → Bound Key
from_removal None = Included (At (Removal least_row))
from_removal (Some after) = Excluded (At (Removal after))

-- what is read of a key, if it is of the kind
abbrev pub row_of : ℕ → Key → Option Id
row_of table (At (Row key)) = cond (key.table == table) (Some key.id) None
row_of table k = None

abbrev pub removal_of : ℕ → Key → Option Id
removal_of table (At (Removal key)) = cond (key.table == table) (Some key.id) None
removal_of table k = None

abbrev pub grant_of : RowKey → Key → Option Id
grant_of row (At (Grant key)) = cond (is_eq (row_cmp key.row row)) (Some key.principal) None
grant_of row k = None

abbrev pub entry_of : Listing → Key → Option Id
entry_of list (In key) = cond (is_eq (list_cmp key.list list)) (Some key.id) None
entry_of list k = None

abbrev pub dirty_of : Key → Option DirtyKey
dirty_of (At (Dirty key)) = Some key
dirty_of k = None

abbrev pub any_removal_of : Key → Option RowKey
any_removal_of (At (Removal key)) = Some key
any_removal_of k = None
