use Rattle.std.proofs.Common.{◌≡◌, ◌-◌, take, length}
use Rattle.dv_store.specs.declared.keys.RowKey.{RowKey}
use Rattle.dv_cascade.specs.Chains.{is_among}
use Rattle.dv_cascade.proofs.blocking.rows_of.Given as goal

abbrev pub invariant-rows : goal.invariant-rows
invariant-rows l = (key : RowKey) → is_among l.found key ≡ is_among (take l.next l.fn.rows) key

abbrev pub decreases-rows : goal.decreases-rows
decreases-rows l = length l.fn.rows - l.next
