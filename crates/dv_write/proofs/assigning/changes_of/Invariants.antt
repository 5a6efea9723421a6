use Rattle.std.proofs.Common.{◌≡◌, take}
use Rattle.std.specs.Prelude.{map}
use Rattle.dv_message.specs.Scenes.{setting_of}
use Rattle.dv_write.specs.Assigning.{assignment_of}
use Rattle.dv_write.proofs.assigning.changes_of.Given as goal

abbrev pub invariant-loop-key : goal.invariant-loop-key
invariant-loop-key l = l.changes ≡ map (assignment_of l.fn.owner (setting_of l.fn.scene)) (take l.key-index l.set)
