use Rattle.dv_cascade.proofs.OneParent.{has_one_parent}
use Rattle.dv_write.proofs.linking.check_parent.Goals as goal

pub would_circle-requires-clause-one_parent : goal.would_circle-requires-clause-one_parent
would_circle-requires-clause-one_parent c = has_one_parent c.args.definition.now c.requires.sound.definition
