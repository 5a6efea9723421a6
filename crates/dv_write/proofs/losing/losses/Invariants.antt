use Rattle.std.proofs.Common.{◌+◌, ◌++◌, List, length}
use Rattle.dv_message.specs.Scenes.{setting_of}
use Rattle.dv_write.specs.declared.change.Change.{Change}
use Rattle.dv_write.specs.Losing.{AreChanges, AreOrdered}
use Rattle.dv_write.proofs.losing.losses.Given as goal

abbrev pub invariant-rows : goal.invariant-rows
invariant-rows l = record {
  ordered : AreOrdered l.rows l.left;
  later : (changes : List Change) → AreChanges (setting_of l.fn.scene) l.rows l.left changes → AreChanges (setting_of l.fn.scene) l.fn.set l.fn.lookups (l.changes ++ changes);
}

abbrev pub decreases-rows : goal.decreases-rows
decreases-rows l = length l.rows + length l.left
