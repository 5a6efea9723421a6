-- The rows that what is done to the row of a message reaches.
use Rattle.std.specs.Prelude.{List}
use Rattle.dv_store.specs.declared.keys.RowKey.{RowKey}
use Rattle.dv_store.specs.Keys.{row_key, row_cmp}
use Rattle.dv_cascade.specs.declared.cascading.Cascading.{Cascading}
use Rattle.dv_cascade.specs.Chains.{AreExactly, IsReached}
use Rattle.dv_message.specs.Scenes.{Targeted}

-- the place of the row that a message names
abbrev pub key_of : Targeted → RowKey
key_of t = row_key t.number t.id

-- the closure of the row: the rows that what is done to it reaches, itself included, by table and id
abbrev pub IsClosure : Targeted → Cascading → List RowKey → Type 0
IsClosure t cascading rows = AreExactly row_cmp (IsReached t.world t.setting.definition cascading (key_of t)) rows
