-- The orders of what keys stand for. Those of rows, grants and rollups are the store's.
use Rattle.std.specs.declared.cmp.Ordering.{Ordering}
use Rattle.std.specs.Ordering.{ordering_then}
use Rattle.dv_value.specs.declared.id.Id.{Id}
use Rattle.dv_value.specs.contracts.id.IdOrd.TheImpl as id_order

-- ids by their numbers
abbrev pub id_cmp : Id → Id → Ordering
id_cmp = id_order.ghosts.cmp

-- pairs of ids by the first, and then by the second
abbrev pub pair_cmp : Id × Id → Id × Id → Ordering
pair_cmp a b = ordering_then (id_cmp a.0 b.0) (id_cmp a.1 b.1)
