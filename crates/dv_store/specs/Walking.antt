-- What a walk tells.
use Rattle.std.specs.Prelude.{ℕ}
use Rattle.dv_store.specs.declared.walking.Walk.{Walk}
use Rattle.dv_store.specs.Cursors.{Told, told_of}

-- the rows and grants that a walk goes over
abbrev pub walked_by : Walk → Told
walked_by walk = told_of walk.store.now.present

-- how many calls of it were made
abbrev pub counted_by : Walk → ℕ
counted_by walk = walk.count
